use Rattle.std.proofs.Common.{◌∙◌, arith}
use Rattle.record_codec.proofs.Told.{next_past, next_told, past_written, told_written}
use Rattle.record_codec.proofs.writer.Writer.each_told.Goals.{then-is_told+in_ok-entry, else-is_told}
use Rattle.record_codec.proofs.writer.Writer.each_told.Goals as goal

pub loop-at-preserved : goal.loop-at-preserved
loop-at-preserved c = elim c.if-is_told.branch [
  | then-is_told+in_ok-entry w ↦
      told_written _ _ _ _ _ _ (next_told _ _ _ _ _ _ (omega arith) c.datacentre.ensures c.get-count.ensures c.is_told.ensures w.if-is_told.true) c.loop-at.invariant (w.self-is ∙ w.in_ok-entry.ensures)
  | else-is_told w ↦
      past_written _ _ _ _ _ (next_past _ _ _ _ _ _ (omega arith) c.datacentre.ensures c.get-count.ensures c.is_told.ensures w.if-is_told.false) c.loop-at.invariant w.self-is
]
