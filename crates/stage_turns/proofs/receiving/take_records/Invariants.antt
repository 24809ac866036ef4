use Rattle.std.proofs.Common.{◌≡◌, ◌++◌, map}
use Rattle.std.specs.Vec.Iter.{into_iter_items}
use Rattle.causal_deps.specs.declared.record.Item.TheVariants.{External}
use Rattle.stage_turns.proofs.receiving.take_records.Given as goal

abbrev pub invariant-loop-rec : goal.invariant-loop-rec
invariant-loop-rec l = record {
  next : (goal.iterator-loop-rec).can_next l.rec-iterator;
  finite : (goal.iterator-loop-rec).is_finite l.rec-iterator;
  items : l.batcher ++ map External (into_iter_items l.rec-iterator) ≡ l.initial.batcher ++ map External (into_iter_items l.initial.rec-iterator);
}
