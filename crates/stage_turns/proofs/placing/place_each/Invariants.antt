use Rattle.std.proofs.Common.{◌≡◌, ◌≤◌, length, map}
use Rattle.std.specs.Vec.Iter.{into_iter_items, into_iter_len}
use Rattle.maintainer.specs.Maintainers.{moved_in}
use Rattle.stage_world.specs.Stages.{slot_of}
use Rattle.stage_turns.specs.Placing.{MayPlaceAll}
use Rattle.stage_turns.proofs.placing.place_each.Given as goal

abbrev pub invariant-loop-entry : goal.invariant-loop-entry
invariant-loop-entry l = record {
  next : (goal.iterator-loop-entry).can_next l.entry-iterator;
  finite : (goal.iterator-loop-entry).is_finite l.entry-iterator;
  may : MayPlaceAll l.maintainer (into_iter_items l.entry-iterator);
  leads : moved_in l.maintainer (map slot_of (into_iter_items l.entry-iterator)) ≡ moved_in l.initial.maintainer (map slot_of (into_iter_items l.initial.entry-iterator));
  room : length (into_iter_items l.entry-iterator) ≤ l.maintainer.spare;
  len : into_iter_len l.entry-iterator ≡ length (into_iter_items l.entry-iterator);
}
