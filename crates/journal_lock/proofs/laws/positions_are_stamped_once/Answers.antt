use Rattle.journal_lock.proofs.Stamps.{stamped_inside, stamped_once}
use Rattle.journal_lock.proofs.laws.positions_are_stamped_once.Goals as goal

pub returns-clause-stamped : goal.returns-clause-stamped
returns-clause-stamped c = λ load log p fits run low. stamped_inside load log fits run p.dc p.lid low

pub returns-clause-once : goal.returns-clause-once
returns-clause-once c = λ load log x fits run. stamped_once load log fits run x
