use Rattle.std.proofs.Common.{◌≡◌, ◌*◌, ◌≤◌, length, take}
use Rattle.std.specs.List.{flat_map}
use Rattle.record_codec.specs.Wire.{record_bytes}
use Rattle.record_codec.proofs.size.records_size.Given as goal

abbrev pub invariant-loop-rec : goal.invariant-loop-rec
invariant-loop-rec l = (l.size ≡ length (flat_map (record_bytes l.form l.dcs) (take l.rec-index l.rec-items))) × (l.size ≤ 8192 * l.rec-index)
