use Rattle.std.proofs.Common.{not}
use Rattle.toid_filter.specs.Filters.{from_name, is_own}
use Rattle.toid_filter.proofs.Losing.{IsLooking}
use Rattle.toid_filter.proofs.leaving.next_lost.Given as goal

abbrev pub invariant-loop-name : goal.invariant-loop-name
invariant-loop-name l = record {
  next : (goal.iterator-loop-name).can_next l.name-iterator;
  finite : (goal.iterator-loop-name).is_finite l.name-iterator;
  looking : IsLooking (λ r. not (is_own l.map l.number r)) (from_name l.fn.from.0 l.fn.from.1 l.held) l.name-iterator;
}
