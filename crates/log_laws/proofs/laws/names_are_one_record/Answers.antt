use Rattle.log_laws.proofs.LawfulRuns.{lawful}
use Rattle.log_laws.proofs.laws.names_are_one_record.Goals as goal

pub returns : goal.returns
returns c = λ load events run. (lawful load events run).one_record
