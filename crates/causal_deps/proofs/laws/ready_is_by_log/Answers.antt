use Rattle.causal_deps.proofs.LogsLemmas.{ready_by_log, ready_by_counts}
use Rattle.causal_deps.proofs.laws.ready_is_by_log.Goals as goal

pub returns : goal.returns
returns c = λ log counts r are within same. (ready_by_log log counts r are within same, ready_by_counts log counts r are within same)
