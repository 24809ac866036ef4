use Rattle.std.proofs.Common.{◌≡◌, [], replicate}
use Rattle.datacentre.proofs.opening.new_batchers.Given as goal

abbrev pub invariant-loop-done : goal.invariant-loop-done
invariant-loop-done l = l.batchers ≡ replicate l._done []
