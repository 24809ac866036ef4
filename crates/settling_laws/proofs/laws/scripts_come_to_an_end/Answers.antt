-- Every script comes to its end, since settling does.
use Rattle.settling_laws.proofs.Scripts.{script_ends}
use Rattle.settling_laws.proofs.laws.scripts_come_to_an_end.Goals as goal

pub returns : goal.returns
returns c = λ script fits good. script_ends script fits good
