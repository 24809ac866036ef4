use Rattle.abstract_log.specs.declared.world.World.{World}
use Rattle.abstract_log.specs.Worlds.{standing_of}
use Rattle.journal_lock.specs.declared.duty.Duty.TheVariants.{Session}
use Rattle.journal_lock.specs.Duties.{number}
use Rattle.journal_lock.proofs.Standing.{known_of, standing_stays}
use Rattle.journal_lock.proofs.laws.sessions_stand_still.Goals as goal

pub returns : goal.returns
returns c = λ load ds a b s duty w. known_of (λ (v : World). standing_of v s) (number (Session s)) (standing_stays s) load ds a b duty w
