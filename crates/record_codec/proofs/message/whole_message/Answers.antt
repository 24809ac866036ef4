use Rattle.record_codec.proofs.Places.{exits}
use Rattle.record_codec.proofs.Wholes.{content_refused, form_refused, message_more, message_read}
use Rattle.record_codec.proofs.message.whole_message.Goals as goal

pub returns-in_err-form-clause-refused : goal.returns-in_err-form-clause-refused
returns-in_err-form-clause-refused c =
    exits c.from_residual.result _ c.from_residual.ensures.1 c.in_err-form.ensures.fault (form_refused _ _ _ c.requires.0 c.new-reader.ensures)

pub returns-in_err-message-clause-refused : goal.returns-in_err-message-clause-refused
returns-in_err-message-clause-refused c =
    exits c.from_residual-in_err-message.result _ c.from_residual-in_err-message.ensures.1 c.in_err-message.ensures.fault
    (content_refused _ _ _ _ _ c.requires.0 c.new-reader.ensures c.in_ok-form.ensures.took)

pub returns-in_err-end-clause-refused : goal.returns-in_err-end-clause-refused
returns-in_err-end-clause-refused c =
    exits c.from_residual-in_err-end.result _ c.from_residual-in_err-end.ensures.1 c.in_err-end.ensures.fault
    (message_more _ _ _ _ _ _ _ c.requires.0 c.requires.1 c.new-reader.ensures c.in_ok-form.ensures.took c.in_ok-message.ensures.ok c.in_ok-message.ensures.took)

pub returns-clause-ok : goal.returns-clause-ok
returns-clause-ok c = message_read _ _ _ _ _ _ _ c.new-reader.ensures c.in_ok-form.ensures.took c.in_ok-message.ensures.ok c.in_ok-message.ensures.took c.in_ok-end.ensures.ok
