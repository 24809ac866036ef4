use Rattle.std.proofs.Common.{◌≡◌, [], replicate}
use Rattle.world.proofs.opening.open_row.Given as goal

abbrev pub invariant-loop-done : goal.invariant-loop-done
invariant-loop-done l = l.row ≡ replicate l._done []
