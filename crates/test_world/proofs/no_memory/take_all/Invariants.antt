use Rattle.std.proofs.Common.{◌≡◌}
use Rattle.test_world.proofs.no_memory.take_all.Given as goal

abbrev pub invariant-loop-step : goal.invariant-loop-step
invariant-loop-step g l = l.stages.workload ≡ l.workload
