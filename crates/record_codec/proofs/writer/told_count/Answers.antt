use Rattle.record_codec.proofs.Told.{counted_more, counted_same, next_past, next_told}
use Rattle.std.proofs.Common.{arith}
use Rattle.record_codec.proofs.writer.told_count.Goals.{then-is_told, else-is_told}
use Rattle.record_codec.proofs.writer.told_count.Goals as goal

pub loop-at-preserved : goal.loop-at-preserved
loop-at-preserved c = elim c.if-is_told.branch [
  | then-is_told w ↦ counted_more _ _ _ _ _ _ (next_told _ _ _ _ _ _ (omega arith) c.datacentre.ensures c.get.ensures c.is_told.ensures w.if-is_told.true) c.loop-at.invariant w.told-is
  | else-is_told w ↦ counted_same _ _ _ _ _ (next_past _ _ _ _ _ _ (omega arith) c.datacentre.ensures c.get.ensures c.is_told.ensures w.if-is_told.false) c.loop-at.invariant w.told-is
]
