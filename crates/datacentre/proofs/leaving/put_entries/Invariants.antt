use Rattle.std.proofs.Common.{◌≡◌, length, map}
use Rattle.std.specs.List.{fold}
use Rattle.std.specs.Vec.Iter.{into_iter_items, into_iter_len}
use Rattle.stage_world.specs.Leaving.{with_slot}
use Rattle.stage_world.specs.Stages.{slot_of}
use Rattle.datacentre.proofs.leaving.put_entries.Given as goal

abbrev pub invariant-loop-entry : goal.invariant-loop-entry
invariant-loop-entry l = record {
  next : (goal.iterator-loop-entry).can_next l.entry-iterator;
  finite : (goal.iterator-loop-entry).is_finite l.entry-iterator;
  leads : fold with_slot l.rows (map slot_of (into_iter_items l.entry-iterator)) ≡ fold with_slot l.initial.rows (map slot_of (into_iter_items l.initial.entry-iterator));
  len : into_iter_len l.entry-iterator ≡ length (into_iter_items l.entry-iterator);
}
