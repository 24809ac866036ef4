use Rattle.std.proofs.Common.{◌≡◌, ◌+◌, ◌*◌, ◌≤◌, length, take}
use Rattle.std.specs.List.{flat_map}
use Rattle.record_codec.specs.Wire.{name_bytes}
use Rattle.record_codec.proofs.size.names_size.Given as goal

abbrev pub invariant-loop-name : goal.invariant-loop-name
invariant-loop-name l = (l.size ≡ 1 + length (flat_map name_bytes (take l.name-index l.name-items))) × (l.size ≤ 1 + 65 * l.name-index)
