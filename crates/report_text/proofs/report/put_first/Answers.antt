-- What the check asks of `put_first` beyond what it finds by itself.
use Rattle.std.proofs.Common.{codes}
use Rattle.report_text.specs.Lines.{line_text}
use Rattle.report_text.specs.Report.{first_line, fact_lines}
use Rattle.report_text.proofs.LineLemmas.{before_last}
use Rattle.report_text.proofs.report.put_first.Goals as goal

pub returns : goal.returns
returns c = before_last line_text _ _ _ _ first_line (fact_lines (codes "datacentres") c.args.dcs) c.in_ok-put.ensures c.put_fact.ensures
