use Rattle.std.proofs.Common.{◌≡◌, ◌++◌, take}
use Rattle.record_codec.specs.Fields.{told_bytes}
use Rattle.record_codec.proofs.writer.Writer.each_told.Given as goal

abbrev pub invariant-loop-at : goal.invariant-loop-at
invariant-loop-at l = l.self ≡ l.initial.self ++ told_bytes l.own (take l.at l.dep)
