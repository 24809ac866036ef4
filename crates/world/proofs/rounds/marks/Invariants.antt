use Rattle.std.proofs.Common.{◌≡◌}
use Rattle.std.specs.List.{flat_map}
use Rattle.stage_world.specs.Settling.{below, marks}
use Rattle.world.proofs.rounds.marks.Given as goal

abbrev pub invariant-loop-number : goal.invariant-loop-number
invariant-loop-number l = l.steps ≡ flat_map marks (below l.number)
