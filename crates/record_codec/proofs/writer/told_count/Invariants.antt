use Rattle.std.proofs.Common.{◌≡◌, ◌≤◌, length, take}
use Rattle.record_codec.specs.Wire.{told_entries}
use Rattle.record_codec.proofs.writer.told_count.Given as goal

abbrev pub invariant-loop-at : goal.invariant-loop-at
invariant-loop-at l = (l.told ≡ length (told_entries l.own 0 (take l.at l.dep))) × (l.told ≤ l.at)
