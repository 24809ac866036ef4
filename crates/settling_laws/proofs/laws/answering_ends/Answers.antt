-- The rounds of answering end, by the work that is left to sessions.
use Rattle.std.proofs.Common.{refl}
use Rattle.settling_laws.proofs.Loop.{answering_ends_at}
use Rattle.settling_laws.proofs.laws.answering_ends.Goals as goal

pub returns : goal.returns
returns c = λ w z lawful stands. answering_ends_at w.workload z (record { world = w; workload = refl; lawful = lawful; stands = stands })
