use Rattle.std.proofs.Common.{◌∙◌}
use Rattle.abstract_log.specs.declared.script.Step.TheVariants.{Flush}
use Rattle.world.proofs.RoundLemmas.{numbered_more}
use Rattle.world.proofs.rounds.add_flushes.Goals as goal

pub loop-b-preserved : goal.loop-b-preserved
loop-b-preserved c = c.in_ok-push.ensures.ok ∙ numbered_more (Flush c.args.d) _ _ _ c.loop-b.invariant
