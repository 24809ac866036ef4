use Rattle.log_laws.proofs.LimitedRuns.{kept}
use Rattle.log_laws.proofs.laws.answered_writes_have_records.Goals as goal

pub returns : goal.returns
returns c = λ load events fits run. (kept load events fits run).present
