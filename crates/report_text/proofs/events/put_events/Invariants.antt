-- The loops of `put_events`: what holds at each turn, and why they end.
use Rattle.std.proofs.Common.{◌≡◌, ◌++◌, take}
use Rattle.std.specs.List.{flat_map}
use Rattle.report_text.specs.Lines.{line_text}
use Rattle.report_text.specs.Report.{event_lines}
use Rattle.report_text.proofs.events.put_events.Given as goal

abbrev pub invariant-loop-event : goal.invariant-loop-event
invariant-loop-event l = l.text ≡ l.initial.text ++ flat_map line_text (flat_map event_lines (take l.event-index l.event-items))
