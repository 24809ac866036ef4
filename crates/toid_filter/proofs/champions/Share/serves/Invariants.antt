use Rattle.std.proofs.Common.{◌≢◌, ℕ, ◌<◌, ◌≤◌}
use Rattle.toid_filter.specs.Champions.{dealt_by}
use Rattle.toid_filter.proofs.champions.Share.serves.Given as goal

abbrev pub invariant-loop-t : goal.invariant-loop-t
invariant-loop-t l = (u : ℕ) → l.from ≤ u → u < l.t → dealt_by l.self l.h u ≢ l.filter
