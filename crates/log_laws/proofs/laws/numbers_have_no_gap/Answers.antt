use Rattle.log_laws.proofs.LawfulRuns.{lawful}
use Rattle.log_laws.proofs.laws.numbers_have_no_gap.Goals as goal

pub returns : goal.returns
returns c = λ load events run d k r is. (((lawful load events run).causal d).in_order k r is).next
