use Rattle.std.proofs.Common.{◌≡◌, ◌++◌, take}
use Rattle.record_codec.specs.Wire.{counts_bytes}
use Rattle.record_codec.proofs.writer.Writer.counts.Given as goal

abbrev pub invariant-loop-at : goal.invariant-loop-at
invariant-loop-at l = l.self ≡ l.initial.self ++ counts_bytes (take l.at l.counts)
