-- The loops of `put_positions`: what holds at each turn, and why they end.
use Rattle.std.proofs.Common.{◌≡◌, ◌++◌, take}
use Rattle.report_text.specs.Numbered.{flat_map_from}
use Rattle.report_text.specs.Lines.{lines_text}
use Rattle.report_text.specs.Report.{position_lines}
use Rattle.report_text.proofs.report.put_positions.Given as goal

abbrev pub invariant-loop-at : goal.invariant-loop-at
invariant-loop-at l = l.text ≡ l.initial.text ++ lines_text (flat_map_from position_lines 1 (take l.at l.row-items))
