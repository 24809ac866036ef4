-- What the check asks of `key_name` beyond what it finds by itself.
use Rattle.std.proofs.Common.{arith, subst, sym, ◌∙◌}
use Rattle.cz_base.specs.Text.{IsName}
use Rattle.script_generator.proofs.TextLemmas.{key_is_name}
use Rattle.script_generator.proofs.texts.key_name.Goals as goal

pub name-requires : goal.name-requires
name-requires c = subst IsName (sym (c.deref.ensures ∙ c.in_ok-format.ensures.ok)) (key_is_name c.args.number (omega arith))
