use Rattle.std.proofs.Common.{refl}
use Rattle.record_codec.proofs.Sizes.{message_length}
use Rattle.record_codec.proofs.size.message_size.Goals as goal

pub returns : goal.returns
returns c = message_length _ _ _ _ _ c.args.message.now c.dcs-dcs.ensures.value refl c.dcs-dcs.ensures.square c.records_size.ensures.size
