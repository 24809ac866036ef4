use Rattle.abstract_log.specs.declared.world.World.{World}
use Rattle.abstract_log.specs.Worlds.{table_of, gone_of}
use Rattle.journal_lock.specs.declared.duty.Duty.TheVariants.{Table}
use Rattle.journal_lock.specs.Duties.{number}
use Rattle.journal_lock.proofs.Standing.{known_of, table_stays, gone_stays}
use Rattle.journal_lock.proofs.laws.tables_stand_still.Goals as goal

pub returns-clause-table : goal.returns-clause-table
returns-clause-table c = λ load ds a b d duty w. known_of (λ (v : World). table_of v d) (number (Table d)) (table_stays d) load ds a b duty w

pub returns-clause-gone : goal.returns-clause-gone
returns-clause-gone c = λ load ds a b d duty w. known_of (λ (v : World). gone_of v d) (number (Table d)) (gone_stays d) load ds a b duty w
