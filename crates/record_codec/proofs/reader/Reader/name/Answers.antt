use Rattle.record_codec.proofs.Fields.{name_size_fails, name_text_fails}
use Rattle.record_codec.proofs.Places.{exits, weaker}
use Rattle.record_codec.proofs.reader.Reader.name.Goals as goal

pub returns-in_err-len-clause-fault : goal.returns-in_err-len-clause-fault
returns-in_err-len-clause-fault c = exits c.from_residual.result _ c.from_residual.ensures.1 c.in_err-len.ensures.fault (name_size_fails _)

pub returns-clause-fault : goal.returns-clause-fault
returns-clause-fault c = weaker c.name_of.result c.name_of.ensures.fault (name_text_fails c.in_ok-len.ensures.ok c.in_ok-len.ensures.took)
