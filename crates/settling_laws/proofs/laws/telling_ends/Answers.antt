-- The rounds of telling end, by the records that logs may still get.
use Rattle.std.proofs.Common.{refl}
use Rattle.settling_laws.proofs.TellingLoop.{telling_ends_at}
use Rattle.settling_laws.proofs.laws.telling_ends.Goals as goal

pub returns : goal.returns
returns c = λ w z lawful stands quiet answered. telling_ends_at w.workload z (record { world = w; workload = refl; lawful = lawful; stands = stands }) quiet answered
