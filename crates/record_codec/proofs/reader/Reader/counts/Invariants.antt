use Rattle.std.proofs.Common.{◌≡◌, length, take}
use Rattle.record_codec.specs.Fields.{AreEntries}
use Rattle.record_codec.specs.Reading.{ReadPast}
use Rattle.record_codec.specs.Wire.{counts_bytes}
use Rattle.record_codec.proofs.reader.Reader.counts.Given as goal

abbrev pub invariant-loop-at : goal.invariant-loop-at
invariant-loop-at l = (length l.counts ≡ l.dcs) × (AreEntries l.own l.at (take l.at l.counts) × ReadPast l.initial.self l.self (counts_bytes (take l.at l.counts)))
