-- The marks end every announcement, by the filters that are still to be asked.
use Rattle.std.proofs.Common.{refl}
use Rattle.settling_laws.proofs.Announcements.{quiet_after_marks}
use Rattle.settling_laws.proofs.laws.marks_end_announcements.Goals as goal

pub returns : goal.returns
returns c = λ w z lawful stands. quiet_after_marks w.workload z (record { world = w; workload = refl; lawful = lawful; stands = stands })
