-- What the check asks of `generate` beyond what it finds by itself.
use Rattle.std.proofs.Common.{◌∙◌}
use Rattle.script_generator.proofs.ScriptLemmas.{is_generated, is_good}
use Rattle.script_generator.proofs.script.generate.Goals as goal

pub returns-clause-script : goal.returns-clause-script
returns-clause-script c =
    is_generated c.args.seed _ _ _ _ _ _ c.new-draws.ensures c.in_ok-sessions.ensures c.in_ok-steps.ensures (c.from_vec-sizes.ensures ∙ c.in_ok-vec.ensures.items)

pub returns-clause-fits : goal.returns-clause-fits
returns-clause-fits c = (is_good c.args.seed _ (returns-clause-script c)).fits

pub returns-clause-steps : goal.returns-clause-steps
returns-clause-steps c = (is_good c.args.seed _ (returns-clause-script c)).steps
