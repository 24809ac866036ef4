-- The loops of `put_lids`: what holds at each turn, and why they end.
use Rattle.std.proofs.Common.{◌≡◌, ◌++◌, take}
use Rattle.std.specs.List.{flat_map}
use Rattle.report_text.specs.Lines.{with_space}
use Rattle.report_text.specs.Values.{number_words}
use Rattle.report_text.proofs.values.put_lids.Given as goal

abbrev pub invariant-loop-lid : goal.invariant-loop-lid
invariant-loop-lid l = l.text ≡ l.initial.text ++ flat_map with_space (flat_map number_words (take l.lid-index l.lid-items))
