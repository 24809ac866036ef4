use Rattle.maintainer.proofs.LawLemmas.{mark_filled, mark_ends}
use Rattle.maintainer.proofs.laws.marks_end_at_a_gap.Goals as goal

pub returns-clause-below : goal.returns-clause-below
returns-clause-below g c = mark_filled

pub returns-clause-gap : goal.returns-clause-gap
returns-clause-gap g c = mark_ends
