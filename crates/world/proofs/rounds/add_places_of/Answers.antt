use Rattle.std.proofs.Common.{◌∙◌}
use Rattle.abstract_log.specs.declared.script.Step.TheVariants.{Place}
use Rattle.world.proofs.RoundLemmas.{numbered_more}
use Rattle.world.proofs.rounds.add_places_of.Goals as goal

pub loop-m-preserved : goal.loop-m-preserved
loop-m-preserved c = c.in_ok-push.ensures.ok ∙ numbered_more (Place c.args.d c.args.q) _ _ _ c.loop-m.invariant
