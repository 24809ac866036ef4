use Rattle.record_codec.proofs.Places.{exits}
use Rattle.record_codec.proofs.Wholes.{record_more, record_refused}
use Rattle.record_codec.proofs.record.whole_record.Goals as goal

pub returns-in_err-rec-clause-refused : goal.returns-in_err-rec-clause-refused
returns-in_err-rec-clause-refused c =
    exits c.from_residual.result _ c.from_residual.ensures.1 c.in_err-rec.ensures.fault (record_refused _ _ _ _ c.requires.0 c.new-reader.ensures)

pub returns-in_err-end-clause-refused : goal.returns-in_err-end-clause-refused
returns-in_err-end-clause-refused c =
    exits c.from_residual-in_err-end.result _ c.from_residual-in_err-end.ensures.1 c.in_err-end.ensures.fault
    (record_more _ _ _ _ _ _ c.requires.0 c.requires.1 c.new-reader.ensures c.in_ok-rec.ensures.ok c.in_ok-rec.ensures.took)
