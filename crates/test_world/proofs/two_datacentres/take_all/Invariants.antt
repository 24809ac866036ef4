use Rattle.std.proofs.Common.{◌≡◌}
use Rattle.test_world.proofs.two_datacentres.take_all.Given as goal

abbrev pub invariant-loop-step : goal.invariant-loop-step
invariant-loop-step l = l.stages.workload ≡ l.workload
