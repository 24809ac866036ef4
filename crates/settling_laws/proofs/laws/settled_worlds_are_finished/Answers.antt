-- What settling leaves is finished, since its last loop has ended.
use Rattle.settling_laws.proofs.Settled.{settled_is_finished}
use Rattle.settling_laws.proofs.laws.settled_worlds_are_finished.Goals as goal

pub returns : goal.returns
returns c = λ w z steps lawful stands settles. settled_is_finished w z steps lawful stands settles
