-- The loops of `put_places`: what holds at each turn, and why they end.
use Rattle.std.proofs.Common.{◌≡◌, ◌++◌, take}
use Rattle.std.specs.List.{flat_map}
use Rattle.report_text.specs.Lines.{with_space}
use Rattle.report_text.specs.Values.{place_words}
use Rattle.report_text.proofs.values.put_places.Given as goal

abbrev pub invariant-loop-place : goal.invariant-loop-place
invariant-loop-place l = l.text ≡ l.initial.text ++ flat_map with_space (flat_map place_words (take l.place-index l.place-items))
