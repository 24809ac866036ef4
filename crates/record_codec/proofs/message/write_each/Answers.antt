use Rattle.record_codec.specs.Wire.{HasTexts}
use Rattle.record_codec.proofs.Pieces.{all_more, records_written_more}
use Rattle.record_codec.proofs.message.write_each.Goals as goal

pub loop-rec-preserved : goal.loop-rec-preserved
loop-rec-preserved c = (
  records_written_more _ _ _ _ _ _ _ _ _ c.as_slice-rec-items.ensures c.requires c.loop-rec-test.true c.rec-item.is c.loop-rec.invariant.0 c.in_ok-write_record.ensures.ok,
  all_more HasTexts _ _ _ c.loop-rec-test.true c.rec-item.is c.loop-rec.invariant.1 c.in_ok-write_record.ensures.texts,
)
