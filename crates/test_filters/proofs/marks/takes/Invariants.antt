use Rattle.std.proofs.Common.{◌≡◌}
use Rattle.test_filters.proofs.marks.takes.Given as goal

abbrev pub invariant-loop-toid : goal.invariant-loop-toid
invariant-loop-toid g l = record {
  accepted : l.filter.accepted ≡ l.initial.filter.accepted;
  map : l.filter.map ≡ l.initial.filter.map;
}
