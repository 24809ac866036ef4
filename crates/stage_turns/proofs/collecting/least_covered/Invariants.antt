use Rattle.std.proofs.Common.{◌≡◌, min, take}
use Rattle.std.specs.List.{fold}
use Rattle.stage_turns.specs.Collecting.{covered_by}
use Rattle.stage_turns.proofs.collecting.least_covered.Given as goal

abbrev pub invariant-loop-indexer : goal.invariant-loop-indexer
invariant-loop-indexer l = l.least ≡ fold min l.bound (covered_by (take l.indexer-index l.indexers))
