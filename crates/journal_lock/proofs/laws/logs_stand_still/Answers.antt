use Rattle.abstract_log.specs.declared.world.World.{World}
use Rattle.abstract_log.specs.Worlds.{log_of}
use Rattle.journal_lock.specs.declared.duty.Duty.TheVariants.{Token}
use Rattle.journal_lock.specs.Duties.{number}
use Rattle.journal_lock.proofs.Standing.{known_of, log_stays}
use Rattle.journal_lock.proofs.laws.logs_stand_still.Goals as goal

pub returns : goal.returns
returns c = λ load ds a b d duty w. known_of (λ (v : World). log_of v d) (number (Token d)) (log_stays d) load ds a b duty w
