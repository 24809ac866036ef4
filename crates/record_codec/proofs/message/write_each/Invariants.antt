use Rattle.std.proofs.Common.{◌≡◌, ◌++◌, All, take}
use Rattle.std.specs.List.{flat_map}
use Rattle.record_codec.specs.Wire.{HasTexts, record_bytes}
use Rattle.record_codec.proofs.message.write_each.Given as goal

abbrev pub invariant-loop-rec : goal.invariant-loop-rec
invariant-loop-rec l = (l.writer ≡ l.initial.writer ++ flat_map (record_bytes l.form l.dcs) (take l.rec-index l.rec-items)) × All HasTexts (take l.rec-index l.rec-items)
