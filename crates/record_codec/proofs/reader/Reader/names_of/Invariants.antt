use Rattle.std.specs.List.{flat_map}
use Rattle.record_codec.specs.Fields.{AreNames}
use Rattle.record_codec.specs.Reading.{ReadPast}
use Rattle.record_codec.specs.Wire.{name_bytes}
use Rattle.record_codec.proofs.reader.Reader.names_of.Given as goal

abbrev pub invariant-loop-done : goal.invariant-loop-done
invariant-loop-done l = AreNames l._done l.names × ReadPast l.initial.self l.self (flat_map name_bytes l.names)
