-- The loops of `put_all_replies`: what holds at each turn, and why they end.
use Rattle.std.proofs.Common.{◌≡◌, ◌++◌}
use Rattle.report_text.specs.Numbered.{below}
use Rattle.report_text.specs.Lines.{lines_text}
use Rattle.report_text.specs.Report.{replies_of}
use Rattle.report_text.proofs.report.put_all_replies.Given as goal

abbrev pub invariant-loop-session : goal.invariant-loop-session
invariant-loop-session l = l.text ≡ l.initial.text ++ lines_text (below (replies_of l.events) l.session)
