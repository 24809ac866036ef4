use Rattle.std.proofs.Common.{◌≡◌, length}
use Rattle.std.specs.List.{fold}
use Rattle.std.specs.Vec.Iter.{into_iter_items, into_iter_len}
use Rattle.stage_world.specs.Leaving.{slots_waiting, with_slot}
use Rattle.datacentre.proofs.leaving.put_queues.Given as goal

abbrev pub invariant-loop-queue : goal.invariant-loop-queue
invariant-loop-queue l = record {
  next : (goal.iterator-loop-queue).can_next l.queue-iterator;
  finite : (goal.iterator-loop-queue).is_finite l.queue-iterator;
  leads : fold with_slot l.rows (slots_waiting (into_iter_items l.queue-iterator)) ≡ fold with_slot l.initial.rows (slots_waiting (into_iter_items l.initial.queue-iterator));
  len : into_iter_len l.queue-iterator ≡ length (into_iter_items l.queue-iterator);
}
