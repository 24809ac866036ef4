use Rattle.log_laws.proofs.LawfulRuns.{lawful}
use Rattle.log_laws.proofs.laws.gone_is_held_by_all.Goals as goal

pub returns : goal.returns
returns c = λ load events run. (lawful load events run).gone
