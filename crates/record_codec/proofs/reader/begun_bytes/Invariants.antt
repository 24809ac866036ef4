use Rattle.std.proofs.Common.{◌≤◌, length}
use Rattle.record_codec.specs.Reading.{BeginsNumber}
use Rattle.record_codec.proofs.reader.begun_bytes.Given as goal

abbrev pub invariant-loop-known : goal.invariant-loop-known
invariant-loop-known l = (l.known ≤ length l.bytes) × BeginsNumber l.width l.low l.high l.bytes l.known
