use Rattle.maintainer.proofs.MarkOf.{is_mark, mark_is}
use Rattle.maintainer.proofs.laws.marks_are_unique.Goals as goal

pub returns-clause-mark : goal.returns-clause-mark
returns-clause-mark g c = is_mark

pub returns-clause-unique : goal.returns-clause-unique
returns-clause-unique g c = mark_is
