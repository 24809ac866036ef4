-- What the check asks of `put_events` beyond what it finds by itself.
use Rattle.report_text.specs.Lines.{line_text}
use Rattle.report_text.specs.Report.{event_words}
use Rattle.report_text.proofs.LineLemmas.{added_one}
use Rattle.report_text.proofs.events.put_events.Goals as goal

pub loop-event-preserved : goal.loop-event-preserved
loop-event-preserved c = added_one line_text event_words _ _ _ _ _ _ c.loop-event.invariant c.in_ok-put_event_line.ensures c.loop-event-test.true c.event-item.is
