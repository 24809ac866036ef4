-- What the check asks of `put_replies` beyond what it finds by itself.
use Rattle.report_text.specs.Lines.{line_text}
use Rattle.report_text.specs.Report.{reply_lines}
use Rattle.report_text.proofs.LineLemmas.{added}
use Rattle.report_text.proofs.events.put_replies.Goals as goal

pub loop-event-preserved : goal.loop-event-preserved
loop-event-preserved c = added line_text (reply_lines c.args.session) _ _ _ _ _ _ c.loop-event.invariant c.in_ok-put_reply.ensures c.loop-event-test.true c.event-item.is
