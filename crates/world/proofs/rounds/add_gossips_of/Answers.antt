use Rattle.std.proofs.Common.{◌∙◌}
use Rattle.abstract_log.specs.declared.script.Step.TheVariants.{Gossip}
use Rattle.world.proofs.RoundLemmas.{numbered_more}
use Rattle.world.proofs.rounds.add_gossips_of.Goals as goal

pub loop-k-preserved : goal.loop-k-preserved
loop-k-preserved c = c.in_ok-push.ensures.ok ∙ numbered_more (Gossip c.args.d c.args.m) _ _ _ c.loop-k.invariant
