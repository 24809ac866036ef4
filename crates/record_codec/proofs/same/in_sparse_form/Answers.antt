use Rattle.record_codec.proofs.TwoTexts.{written_sparse}
use Rattle.record_codec.proofs.same.in_sparse_form.Goals as goal

pub returns-in-Ok : goal.returns-in-Ok
returns-in-Ok c = λ m is. written_sparse _ c.args.dcs c.args.bytes.now c.in-Ok.message m c.encode_message_2.result c.in-Ok.ensures.ok (c.in-Ok.ensures.only m is) c.encode_message_2.ensures
