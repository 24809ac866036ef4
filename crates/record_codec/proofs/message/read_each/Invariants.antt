use Rattle.std.specs.List.{flat_map}
use Rattle.record_codec.specs.Fields.{AreRecords}
use Rattle.record_codec.specs.Reading.{ReadPast}
use Rattle.record_codec.specs.Wire.{record_bytes}
use Rattle.record_codec.proofs.message.read_each.Given as goal

abbrev pub invariant-loop-done : goal.invariant-loop-done
invariant-loop-done l = AreRecords l.form l.dcs l.fn.host l._done l.records × ReadPast l.initial.reader l.reader (flat_map (record_bytes l.form l.dcs) l.records)
