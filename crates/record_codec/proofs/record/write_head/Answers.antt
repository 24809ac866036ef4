use Rattle.std.proofs.lemmas.Result.{on_ok_weaker}
use Rattle.record_codec.proofs.Pieces.{head_written}
use Rattle.record_codec.proofs.record.write_head.Goals as goal

pub returns : goal.returns
returns c =
    on_ok_weaker c.number-7.result
    (head_written _ _ _ _ _ _ _ _ _ _ _ _ _ _ _ _ c.dcs.ensures.value c.number-2.ensures.value c.kind_byte.ensures.value
    c.in_ok-number.ensures c.in_ok-number-2.ensures c.in_ok-number-3.ensures c.in_ok-number-4.ensures c.in_ok-number-5.ensures)
    c.number-7.ensures
