use Rattle.record_codec.proofs.Wholes.{message_law}
use Rattle.record_codec.proofs.laws.no_message_begins_another.Goals as goal

pub returns : goal.returns
returns c = message_law
