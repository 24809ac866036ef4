use Rattle.std.proofs.Common.{take}
use Rattle.std.specs.List.{All}
use Rattle.abstract_log.specs.Turns.{IsStep}
use Rattle.test_world.proofs.steps.may_take_all.Given as goal

abbrev pub invariant-loop-step : goal.invariant-loop-step
invariant-loop-step l = All (IsStep l.workload) (take l.step-index l.steps)
