-- A local round settles its datacentre, kind by kind of its turns.
use Rattle.std.proofs.Common.{refl}
use Rattle.settling_laws.proofs.LocalRound.{settled_by_round}
use Rattle.settling_laws.proofs.laws.rounds_settle_a_datacentre.Goals as goal

pub returns : goal.returns
returns c = λ w z d lawful stands within. settled_by_round w.workload d z within (record { world = w; workload = refl; lawful = lawful; stands = stands })
