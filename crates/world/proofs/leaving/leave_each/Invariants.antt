use Rattle.std.proofs.Common.{◌≡◌, ◌++◌, List, length}
use Rattle.std.specs.List.{AllZip}
use Rattle.std.specs.Vec.Iter.{into_iter_items, into_iter_len}
use Rattle.abstract_log.specs.declared.left.LeftAt.{LeftAt}
use Rattle.datacentre.specs.Leaving.{IsLeftBy}
use Rattle.world.proofs.leaving.leave_each.Given as goal

abbrev pub invariant-loop-datacentre : goal.invariant-loop-datacentre
invariant-loop-datacentre l = record {
  next : (goal.iterator-loop-datacentre).can_next l.datacentre-iterator;
  finite : (goal.iterator-loop-datacentre).is_finite l.datacentre-iterator;
  leads : (more : List LeftAt) → AllZip IsLeftBy (into_iter_items l.datacentre-iterator) more → AllZip IsLeftBy (into_iter_items l.initial.datacentre-iterator) (l.left ++ more);
  len : into_iter_len l.datacentre-iterator ≡ length (into_iter_items l.datacentre-iterator);
}
