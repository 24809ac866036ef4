-- Settling ends, since its marks end each announcement and both of its loops end.
use Rattle.std.proofs.Common.{refl}
use Rattle.settling_laws.proofs.Settled.{settling_ends_at}
use Rattle.settling_laws.proofs.laws.settling_ends.Goals as goal

pub returns : goal.returns
returns c = λ w z lawful stands. settling_ends_at w.workload z (record { world = w; workload = refl; lawful = lawful; stands = stands })
