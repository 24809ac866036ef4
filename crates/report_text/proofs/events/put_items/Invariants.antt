-- The loops of `put_items`: what holds at each turn, and why they end.
use Rattle.std.proofs.Common.{◌≡◌, ◌++◌, take}
use Rattle.std.specs.List.{flat_map}
use Rattle.report_text.specs.Lines.{with_space}
use Rattle.report_text.specs.Report.{found_words}
use Rattle.report_text.proofs.events.put_items.Given as goal

abbrev pub invariant-loop-item : goal.invariant-loop-item
invariant-loop-item l = l.text ≡ l.initial.text ++ flat_map with_space (flat_map found_words (take l.item-index l.item-items))
