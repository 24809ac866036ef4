use Rattle.std.proofs.Common.{◌∙◌, ◌%◌}
use Rattle.abstract_log.specs.declared.script.Step.TheVariants.{Pass}
use Rattle.world.proofs.RoundLemmas.{numbered_more}
use Rattle.world.proofs.rounds.add_passes.Goals as goal

pub loop-f-preserved : goal.loop-f-preserved
loop-f-preserved c = c.in_ok-push.ensures.ok ∙ numbered_more (λ f. Pass c.args.d f (f % c.args.queues)) _ _ _ c.loop-f.invariant
