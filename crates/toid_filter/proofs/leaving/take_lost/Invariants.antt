use Rattle.std.proofs.Common.{◌+◌, ◌≤◌, length, vec_capacity, vec_len}
use Rattle.toid_filter.specs.Filters.{is_own}
use Rattle.toid_filter.proofs.Losing.{IsLosing}
use Rattle.toid_filter.proofs.leaving.take_lost.Given as goal

abbrev pub invariant-loop-name : goal.invariant-loop-name
invariant-loop-name l = record {
  losing : IsLosing (is_own l.map l.number) l.initial.held l.initial.lost.items l.held l.lost.items l.from.0 l.from.1;
  room : vec_len l.lost + length l.held ≤ vec_capacity l.lost;
}

abbrev pub decreases-loop-name : goal.decreases-loop-name
decreases-loop-name l = length l.held
