-- What the check asks of `put_collected` beyond what it finds by itself.
use Rattle.report_text.specs.Lines.{line_text}
use Rattle.report_text.specs.Summary.{collected_lines}
use Rattle.report_text.proofs.LineLemmas.{added_below}
use Rattle.report_text.proofs.summary_form.put_collected.Goals as goal

pub loop-number-preserved : goal.loop-number-preserved
loop-number-preserved c = added_below line_text (collected_lines c.args.events.now) _ _ _ _ c.loop-number.invariant c.in_ok-put_collected_at.ensures
