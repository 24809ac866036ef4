-- The loops of `put_replies`: what holds at each turn, and why they end.
use Rattle.std.proofs.Common.{◌≡◌, ◌++◌, take}
use Rattle.std.specs.List.{flat_map}
use Rattle.report_text.specs.Lines.{line_text}
use Rattle.report_text.specs.Report.{reply_lines}
use Rattle.report_text.proofs.events.put_replies.Given as goal

abbrev pub invariant-loop-event : goal.invariant-loop-event
invariant-loop-event l = l.text ≡ l.initial.text ++ flat_map line_text (flat_map (reply_lines l.session) (take l.event-index l.event-items))
