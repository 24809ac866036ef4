use Rattle.std.proofs.Common.{◌≡◌, replicate}
use Rattle.flstore_rounds.specs.Heads.{blank}
use Rattle.datacentre.proofs.opening.new_vectors.Given as goal

abbrev pub invariant-loop-done : goal.invariant-loop-done
invariant-loop-done l = l.vectors ≡ replicate l._done (blank l.epochs)
