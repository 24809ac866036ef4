use Rattle.std.proofs.Common.{refl}
use Rattle.sender_receiver.proofs.OneMessage.{only_this}
use Rattle.sender_receiver.proofs.sender.Sender.tell.Goals as goal

pub returns-clause-decodes : goal.returns-clause-decodes
returns-clause-decodes g c =
    only_this c.in_ok-bytes.bytes.items _ c.in_ok-message.message _ c.no_message_begins_another.ensures c.in_ok-message.ensures.dcs refl c.in_ok-message.ensures.value (record { form = _; inside = c.in_ok-bytes.ensures })
