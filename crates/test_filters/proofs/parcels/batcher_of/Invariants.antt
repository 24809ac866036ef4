use Rattle.std.proofs.Common.{All}
use Rattle.batcher.specs.Batchers.{HasNumber}
use Rattle.test_filters.proofs.parcels.batcher_of.Given as goal

abbrev pub invariant-loop-row : goal.invariant-loop-row
invariant-loop-row l = All HasNumber l.batcher
