-- What the check asks of `put_positions` beyond what it finds by itself.
use Rattle.std.proofs.Common.{arith}
use Rattle.report_text.specs.Lines.{line_text}
use Rattle.report_text.specs.Report.{position_lines}
use Rattle.report_text.proofs.LineLemmas.{added_numbered}
use Rattle.report_text.proofs.report.put_positions.Goals as goal

pub loop-at-preserved : goal.loop-at-preserved
loop-at-preserved c = added_numbered line_text position_lines 1 _ _ _ _ _ _ c.loop-at.invariant c.in_ok-put_position.ensures (omega arith) c.row-item.is
