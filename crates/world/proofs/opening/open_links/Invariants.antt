use Rattle.std.proofs.Common.{◌≡◌, [], replicate}
use Rattle.world.proofs.opening.open_links.Given as goal

abbrev pub invariant-loop-done : goal.invariant-loop-done
invariant-loop-done l = l.links ≡ replicate l._done (replicate l.dcs [])
