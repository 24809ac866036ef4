use Rattle.log_laws.proofs.LimitedRuns.{laws_of_run}
use Rattle.log_laws.proofs.laws.runs_are_lawful.Goals as goal

pub returns : goal.returns
returns c = λ load events limits run. laws_of_run load events limits run
