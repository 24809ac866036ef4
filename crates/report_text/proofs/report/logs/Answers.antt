-- What the check asks of `logs` beyond what it finds by itself.
use Rattle.report_text.proofs.LeftLemmas.{few_left}
use Rattle.report_text.proofs.report.logs.Goals as goal

pub put_logs-requires : goal.put_logs-requires
put_logs-requires c = few_left c.args.run.now.workload c.args.run.now.events c.args.left.now c.requires.limits.workload c.requires.left
