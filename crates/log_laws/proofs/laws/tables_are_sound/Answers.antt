use Rattle.log_laws.proofs.LawfulRuns.{lawful}
use Rattle.log_laws.proofs.laws.tables_are_sound.Goals as goal

pub returns : goal.returns
returns c = λ load events run. (lawful load events run).tables
