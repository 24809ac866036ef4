use Rattle.std.proofs.Common.{◌∙◌}
use Rattle.abstract_log.specs.declared.script.Step.TheVariants.{Gossip}
use Rattle.stage_world.specs.Opening.{numbered}
use Rattle.world.proofs.RoundLemmas.{flat_more}
use Rattle.world.proofs.rounds.add_gossips.Goals as goal

pub loop-m-preserved : goal.loop-m-preserved
loop-m-preserved c = c.in_ok-add_gossips_of.ensures ∙ flat_more (λ m. numbered (Gossip c.args.d m) c.args.maintainers) _ _ _ c.loop-m.invariant
