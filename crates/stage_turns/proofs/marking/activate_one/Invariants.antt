use Rattle.std.proofs.Common.{◌≡◌, ◌++◌, length, map}
use Rattle.std.specs.Vec.Iter.{into_iter_items, into_iter_len}
use Rattle.causal_deps.specs.declared.record.Item.TheVariants.{External}
use Rattle.stage_turns.proofs.marking.activate_one.Given as goal

abbrev pub invariant-loop-rec : goal.invariant-loop-rec
invariant-loop-rec l = record {
  next : (goal.iterator-loop-rec).can_next l.rec-iterator;
  finite : (goal.iterator-loop-rec).is_finite l.rec-iterator;
  leads : l.handed ++ map External (into_iter_items l.rec-iterator) ≡ l.initial.handed ++ map External (into_iter_items l.initial.rec-iterator);
  len : into_iter_len l.rec-iterator ≡ length (into_iter_items l.rec-iterator);
}
