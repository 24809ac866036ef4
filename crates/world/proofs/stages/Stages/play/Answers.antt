use Rattle.std.proofs.Common.{arith}
use Rattle.world.proofs.SettledLemmas.{item_may, plays_all, plays_next, plays_none, plays_one}
use Rattle.world.proofs.stages.Stages.play.Goals as goal

pub loop-step-init : goal.loop-step-init
loop-step-init c = plays_none _

pub take-requires : goal.take-requires
take-requires c = record { step = item_may _ _ _ _ _ _ c.loop-step.invariant c.requires.taken c.requires.may c.loop-step-test.true c.step-item.is }

pub loop-step-preserved : goal.loop-step-preserved
loop-step-preserved c = plays_next _ _ _ _ _ _ c.loop-step-test.true c.step-item.is c.loop-step.invariant (plays_one _ _ _ c.in_ok-take.ensures.taken)

pub returns : goal.returns
returns c = plays_all _ _ _ _ (omega (arith, c.loop-step-test.false)) c.loop-step.invariant
