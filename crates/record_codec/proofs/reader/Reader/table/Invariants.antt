use Rattle.std.proofs.Common.{take, ℕ, None}
use Rattle.record_codec.specs.Fields.{AreEntries}
use Rattle.record_codec.specs.Parts.{AreEach}
use Rattle.record_codec.specs.Reading.{ReadPast}
use Rattle.record_codec.specs.Wire.{table_bytes}
use Rattle.record_codec.proofs.Fields.{AreZeros}
use Rattle.record_codec.proofs.reader.Reader.table.Given as goal

abbrev pub invariant-loop-at : goal.invariant-loop-at
invariant-loop-at l = AreZeros l.dcs l.at l.table × (AreEach (λ (_ : ℕ). AreEntries None l.dcs) 0 l.at (take l.at l.table) × ReadPast l.initial.self l.self (table_bytes (take l.at l.table)))
