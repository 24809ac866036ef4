use Rattle.log_laws.proofs.LimitedRuns.{kept}
use Rattle.log_laws.proofs.laws.records_are_of_answered_commands.Goals as goal

pub returns : goal.returns
returns c = λ load events fits run. (kept load events fits run).done
