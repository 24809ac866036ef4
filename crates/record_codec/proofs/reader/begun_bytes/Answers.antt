use Rattle.record_codec.proofs.Numbers.{begins_none}
use Rattle.std.proofs.Common.{arith}
use Rattle.record_codec.proofs.reader.begun_bytes.Goals as goal

pub loop-known-init : goal.loop-known-init
loop-known-init c = (omega arith, begins_none _ _ _ _ c.requires.order c.requires.fits)
