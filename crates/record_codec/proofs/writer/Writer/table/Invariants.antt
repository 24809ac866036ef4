use Rattle.std.proofs.Common.{◌≡◌, ◌++◌, take}
use Rattle.record_codec.specs.Wire.{table_bytes}
use Rattle.record_codec.proofs.writer.Writer.table.Given as goal

abbrev pub invariant-loop-at : goal.invariant-loop-at
invariant-loop-at l = l.self ≡ l.initial.self ++ table_bytes (take l.at l.table)
