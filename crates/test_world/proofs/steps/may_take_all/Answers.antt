use Rattle.std.proofs.Common.{arith}
use Rattle.abstract_log.specs.Turns.{IsStep}
use Rattle.test_world.proofs.Taking.{all_more, all_seen}
use Rattle.test_world.proofs.steps.may_take_all.Goals as goal

pub loop-step-preserved : goal.loop-step-preserved
loop-step-preserved c = all_more (IsStep c.args.workload.now) _ _ _ c.loop-step-test.true c.step-item.is c.loop-step.invariant (c.may_take.ensures c.if-not-may_take.false)

pub returns : goal.returns
returns c = λ _. all_seen (IsStep c.args.workload.now) _ _ (omega (arith, c.loop-step-test.false)) c.loop-step.invariant
