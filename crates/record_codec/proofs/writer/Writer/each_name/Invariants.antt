use Rattle.std.proofs.Common.{◌≡◌, ◌++◌, All, take}
use Rattle.std.specs.List.{flat_map}
use Rattle.cz_base.specs.Text.{IsName}
use Rattle.record_codec.specs.Wire.{name_bytes}
use Rattle.record_codec.proofs.writer.Writer.each_name.Given as goal

abbrev pub invariant-loop-name : goal.invariant-loop-name
invariant-loop-name l = (l.self ≡ l.initial.self ++ flat_map name_bytes (take l.name-index l.name-items)) × All IsName (take l.name-index l.name-items)
