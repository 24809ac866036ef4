use Rattle.toid_filter.proofs.Running.{IsWalking}
use Rattle.toid_filter.proofs.filter.Filter.due_count.Given as goal

abbrev pub invariant-loop-next : goal.invariant-loop-next
invariant-loop-next l = record {
  next : (goal.iterator-loop-next).can_next l.next-iterator;
  finite : (goal.iterator-loop-next).is_finite l.next-iterator;
  walking : IsWalking l.self l.rec l.next-iterator l.count l.last;
}
