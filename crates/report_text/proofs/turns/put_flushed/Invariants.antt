-- The loops of `put_flushed`: what holds at each turn, and why they end.
use Rattle.std.proofs.Common.{◌≡◌, ◌++◌, take}
use Rattle.std.specs.List.{flat_map}
use Rattle.report_text.specs.Lines.{with_space}
use Rattle.report_text.specs.Turns.{flush_words}
use Rattle.report_text.proofs.turns.put_flushed.Given as goal

abbrev pub invariant-loop-item : goal.invariant-loop-item
invariant-loop-item l = l.text ≡ l.initial.text ++ flat_map with_space (flat_map flush_words (take l.item-index l.item-items))
