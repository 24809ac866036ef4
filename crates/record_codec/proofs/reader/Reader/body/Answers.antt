use Rattle.record_codec.proofs.Fields.{body_size_fails, body_text_fails}
use Rattle.record_codec.proofs.Places.{exits, weaker}
use Rattle.record_codec.proofs.reader.Reader.body.Goals as goal

pub returns-in_err-len-clause-fault : goal.returns-in_err-len-clause-fault
returns-in_err-len-clause-fault c = exits c.from_residual.result _ c.from_residual.ensures.1 c.in_err-len.ensures.fault (body_size_fails _ c.requires)

pub returns-clause-fault : goal.returns-clause-fault
returns-clause-fault c = weaker c.body_of.result c.body_of.ensures.fault (body_text_fails c.requires c.in_ok-len.ensures.ok c.in_ok-len.ensures.took)
