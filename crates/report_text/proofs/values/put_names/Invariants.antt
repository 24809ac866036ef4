-- The loops of `put_names`: what holds at each turn, and why they end.
use Rattle.std.proofs.Common.{◌≡◌, ◌++◌, take}
use Rattle.std.specs.List.{flat_map}
use Rattle.report_text.specs.Lines.{with_space}
use Rattle.report_text.specs.Values.{name_words}
use Rattle.report_text.proofs.values.put_names.Given as goal

abbrev pub invariant-loop-name : goal.invariant-loop-name
invariant-loop-name l = l.text ≡ l.initial.text ++ flat_map with_space (flat_map name_words (take l.name-index l.name-items))
