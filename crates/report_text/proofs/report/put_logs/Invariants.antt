-- The loops of `put_logs`: what holds at each turn, and why they end.
use Rattle.std.proofs.Common.{◌≡◌, ◌++◌, take}
use Rattle.report_text.specs.Numbered.{flat_map_from}
use Rattle.report_text.specs.Lines.{lines_text}
use Rattle.report_text.specs.Report.{logged_lines}
use Rattle.report_text.proofs.report.put_logs.Given as goal

abbrev pub invariant-loop-number : goal.invariant-loop-number
invariant-loop-number l = l.text ≡ l.initial.text ++ lines_text (flat_map_from logged_lines 0 (take l.number l.at-items))
