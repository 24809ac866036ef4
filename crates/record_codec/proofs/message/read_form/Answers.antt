use Rattle.record_codec.proofs.Messages.{form_fails}
use Rattle.record_codec.proofs.Places.{exits}
use Rattle.record_codec.proofs.message.read_form.Goals as goal

pub returns-in_err-number-clause-fault : goal.returns-in_err-number-clause-fault
returns-in_err-number-clause-fault c = exits c.from_residual.result _ c.from_residual.ensures.1 c.in_err-number.ensures.fault (form_fails _)
