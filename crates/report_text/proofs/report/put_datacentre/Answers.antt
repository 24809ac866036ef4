-- What the check asks of `put_datacentre` beyond what it finds by itself.
use Rattle.report_text.specs.Lines.{line_text}
use Rattle.report_text.specs.Report.{log_lines, table_lines}
use Rattle.report_text.proofs.LineLemmas.{before_last}
use Rattle.report_text.proofs.report.put_datacentre.Goals as goal

pub returns : goal.returns
returns c = before_last line_text _ _ _ _ (log_lines c.args.dc c.args.at.now.rows) (table_lines c.args.dc c.args.at.now.table) c.in_ok-put_log.ensures c.put_table_line.ensures
