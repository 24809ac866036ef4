use Rattle.maintainer.proofs.LawLemmas.{mark_stays}
use Rattle.maintainer.proofs.laws.learning_keeps_the_mark.Goals as goal

pub returns : goal.returns
returns g c = mark_stays
