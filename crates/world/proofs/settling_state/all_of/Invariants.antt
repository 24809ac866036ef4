use Rattle.std.proofs.Common.{◌≡◌}
use Rattle.stage_world.specs.Settling.{below}
use Rattle.world.proofs.settling_state.all_of.Given as goal

abbrev pub invariant-loop-number : goal.invariant-loop-number
invariant-loop-number l = l.ds ≡ below l.number
