use Rattle.cz_base.specs.Text.{IsName}
use Rattle.record_codec.specs.Wire.{name_bytes}
use Rattle.record_codec.proofs.Pieces.{all_more, written_more}
use Rattle.record_codec.proofs.writer.Writer.each_name.Goals as goal

pub loop-name-preserved : goal.loop-name-preserved
loop-name-preserved c = (
  written_more name_bytes _ _ _ _ _ _ c.loop-name-test.true c.name-item.is c.loop-name.invariant.0 c.in_ok-name.ensures.ok,
  all_more IsName _ _ _ c.loop-name-test.true c.name-item.is c.loop-name.invariant.1 c.in_ok-name.ensures.is,
)
