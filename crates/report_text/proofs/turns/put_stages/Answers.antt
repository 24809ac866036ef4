-- What the check asks of `put_stages` beyond what it finds by itself.
use Rattle.report_text.specs.Lines.{line_text}
use Rattle.report_text.specs.Turns.{stage_lines}
use Rattle.report_text.proofs.LineLemmas.{added}
use Rattle.report_text.proofs.turns.put_stages.Goals as goal

pub loop-line-preserved : goal.loop-line-preserved
loop-line-preserved c = added line_text (stage_lines c.args.settling) _ _ _ _ _ _ c.loop-line.invariant c.in_ok-put_stage_if.ensures c.loop-line-test.true c.line-item.is
