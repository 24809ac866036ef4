use Rattle.std.proofs.Common.{◌≡◌, length}
use Rattle.std.specs.List.{fold}
use Rattle.std.specs.Vec.Iter.{into_iter_items, into_iter_len}
use Rattle.stage_world.specs.Leaving.{with_slot}
use Rattle.datacentre.proofs.leaving.put_slots.Given as goal

abbrev pub invariant-loop-slot : goal.invariant-loop-slot
invariant-loop-slot l = record {
  next : (goal.iterator-loop-slot).can_next l.slot-iterator;
  finite : (goal.iterator-loop-slot).is_finite l.slot-iterator;
  leads : fold with_slot l.rows (into_iter_items l.slot-iterator) ≡ fold with_slot l.initial.rows (into_iter_items l.initial.slot-iterator);
  len : into_iter_len l.slot-iterator ≡ length (into_iter_items l.slot-iterator);
}
