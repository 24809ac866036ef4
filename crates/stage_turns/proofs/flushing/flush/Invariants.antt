use Rattle.std.proofs.Common.{◌≡◌, length}
use Rattle.std.specs.Vec.Iter.{into_iter_items, into_iter_len}
use Rattle.stage_turns.proofs.Flushes.{AreGoing}
use Rattle.stage_turns.proofs.flushing.flush.Given as goal

abbrev pub invariant-loop-parcel : goal.invariant-loop-parcel
invariant-loop-parcel l = record {
  next : (goal.iterator-loop-parcel).can_next l.parcel-iterator;
  finite : (goal.iterator-loop-parcel).is_finite l.parcel-iterator;
  going : AreGoing l.map l.initial.filters (into_iter_items l.initial.parcel-iterator) l.filters l.items (into_iter_items l.parcel-iterator);
  len : into_iter_len l.parcel-iterator ≡ length (into_iter_items l.parcel-iterator);
}
