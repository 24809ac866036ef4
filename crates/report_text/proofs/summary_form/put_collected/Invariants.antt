-- The loops of `put_collected`: what holds at each turn, and why they end.
use Rattle.std.proofs.Common.{◌≡◌, ◌++◌}
use Rattle.report_text.specs.Lines.{lines_text}
use Rattle.report_text.specs.Numbered.{below}
use Rattle.report_text.specs.Summary.{collected_lines}
use Rattle.report_text.proofs.summary_form.put_collected.Given as goal

abbrev pub invariant-loop-number : goal.invariant-loop-number
invariant-loop-number l = l.text ≡ l.initial.text ++ lines_text (below (collected_lines l.events) l.number)
