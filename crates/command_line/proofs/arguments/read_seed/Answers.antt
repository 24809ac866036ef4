-- What the check asks of `read_seed` beyond what it finds by itself.
use Rattle.std.proofs.Common.{◌∙◌, rules}
use Rattle.command_line.proofs.Seeds.{no_seed_by_first, seed_read}
use Rattle.command_line.proofs.arguments.read_seed.Goals as goal

pub returns-then-not-begins_a_number : goal.returns-then-not-begins_a_number
returns-then-not-begins_a_number c = no_seed_by_first c.args.text.now (search rules)

pub returns : goal.returns
returns c = (search rules) ∙ seed_read c.args.text.now c.parse.result c.parse.ensures.value.0 (search rules) (search rules)
