use Rattle.std.proofs.Common.{arith}
use Rattle.world.proofs.ReplayLemmas.{one_more, step_fits, steps_done}
use Rattle.world.proofs.replaying.opened.Goals as goal

pub turn-requires : goal.turn-requires
turn-requires c = record { step = step_fits _ _ _ _ _ _ c.as_slice-step-items.ensures c.loop-step.invariant c.requires.steps c.loop-step-test.true c.step-item.is }

pub loop-step-preserved : goal.loop-step-preserved
loop-step-preserved c = one_more _ _ _ _ _ c.loop-step-test.true c.step-item.is (c.in_ok-turn.ensures.taken _ _ c.loop-step.invariant)

pub returns : goal.returns
returns c = steps_done _ _ _ _ c.as_slice-step-items.ensures (omega (arith, c.loop-step-test.false)) c.loop-step.invariant
