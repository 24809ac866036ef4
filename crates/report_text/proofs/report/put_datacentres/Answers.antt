-- What the check asks of `put_datacentres` beyond what it finds by itself.
use Rattle.std.proofs.Common.{arith}
use Rattle.report_text.specs.Lines.{line_text}
use Rattle.report_text.specs.Report.{datacentre_lines}
use Rattle.report_text.proofs.LineLemmas.{added_counted}
use Rattle.report_text.proofs.report.put_datacentres.Goals as goal

pub loop-number-preserved : goal.loop-number-preserved
loop-number-preserved c = added_counted line_text datacentre_lines _ _ _ _ _ _ c.loop-number.invariant c.in_ok-put_datacentre.ensures (omega arith) c.at-item.is
