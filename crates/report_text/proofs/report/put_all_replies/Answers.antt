-- What the check asks of `put_all_replies` beyond what it finds by itself.
use Rattle.report_text.specs.Lines.{line_text}
use Rattle.report_text.specs.Report.{replies_of}
use Rattle.report_text.proofs.LineLemmas.{added_below}
use Rattle.report_text.proofs.report.put_all_replies.Goals as goal

pub loop-session-preserved : goal.loop-session-preserved
loop-session-preserved c = added_below line_text (replies_of c.args.events.now) _ _ _ _ c.loop-session.invariant c.in_ok-put_replies.ensures
