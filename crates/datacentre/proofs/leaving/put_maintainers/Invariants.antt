use Rattle.std.proofs.Common.{◌≡◌, length}
use Rattle.std.specs.List.{fold}
use Rattle.std.specs.Vec.Iter.{into_iter_items, into_iter_len}
use Rattle.stage_world.specs.Leaving.{slots_kept, with_slot}
use Rattle.datacentre.proofs.leaving.put_maintainers.Given as goal

abbrev pub invariant-loop-maintainer : goal.invariant-loop-maintainer
invariant-loop-maintainer l = record {
  next : (goal.iterator-loop-maintainer).can_next l.maintainer-iterator;
  finite : (goal.iterator-loop-maintainer).is_finite l.maintainer-iterator;
  leads : fold with_slot l.rows (slots_kept (into_iter_items l.maintainer-iterator)) ≡ fold with_slot l.initial.rows (slots_kept (into_iter_items l.initial.maintainer-iterator));
  len : into_iter_len l.maintainer-iterator ≡ length (into_iter_items l.maintainer-iterator);
}
