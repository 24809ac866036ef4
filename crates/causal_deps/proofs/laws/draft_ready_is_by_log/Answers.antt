use Rattle.causal_deps.proofs.LogsLemmas.{covered_by_log, covered_by_counts}
use Rattle.causal_deps.proofs.laws.draft_ready_is_by_log.Goals as goal

pub returns : goal.returns
returns c = λ log counts d are same. (covered_by_log log counts d.dep are same, covered_by_counts log counts d.dep are same)
