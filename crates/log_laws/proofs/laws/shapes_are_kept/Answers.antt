use Rattle.log_laws.proofs.LimitedRuns.{kept}
use Rattle.log_laws.proofs.laws.shapes_are_kept.Goals as goal

pub returns : goal.returns
returns c = λ load events fits run. (kept load events fits run).shape
