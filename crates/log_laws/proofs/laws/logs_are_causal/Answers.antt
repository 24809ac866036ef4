use Rattle.log_laws.proofs.LawfulRuns.{lawful}
use Rattle.log_laws.proofs.laws.logs_are_causal.Goals as goal

pub returns : goal.returns
returns c = λ load events run. (lawful load events run).causal
