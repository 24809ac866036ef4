use Rattle.record_codec.proofs.Wholes.{message_fits, message_only}
use Rattle.record_codec.proofs.message.decode_message.Goals as goal

pub returns-clause-only : goal.returns-clause-only
returns-clause-only c = message_only _ _ c.whole_message.result c.requires.1 c.whole_message.ensures.ok c.whole_message.ensures.refused

pub returns-clause-fits : goal.returns-clause-fits
returns-clause-fits c = message_fits _ _ c.whole_message.result c.whole_message.ensures.ok
