use Rattle.std.proofs.Common.{◌∙◌}
use Rattle.abstract_log.specs.declared.script.Step.TheVariants.{Place}
use Rattle.stage_world.specs.Opening.{numbered}
use Rattle.world.proofs.RoundLemmas.{flat_more}
use Rattle.world.proofs.rounds.add_places.Goals as goal

pub loop-q-preserved : goal.loop-q-preserved
loop-q-preserved c = c.in_ok-add_places_of.ensures ∙ flat_more (λ q. numbered (Place c.args.d q) c.args.maintainers) _ _ _ c.loop-q.invariant
