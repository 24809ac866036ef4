use Rattle.std.proofs.lemmas.Result.{on_ok_weaker}
use Rattle.record_codec.proofs.Pieces.{message_written}
use Rattle.record_codec.proofs.message.write_message.Goals as goal

pub returns-clause-ok : goal.returns-clause-ok
returns-clause-ok c =
    on_ok_weaker c.write_records.result
    (message_written _ _ _ _ _ _ _ _ _ _ _ _ _ _ _ c.form_byte.ensures.value c.dcs-dcs.ensures.value c.number-2.ensures.value
    c.in_ok-number.ensures c.in_ok-number-2.ensures c.in_ok-number-3.ensures c.in_ok-table.ensures)
    c.write_records.ensures.ok
