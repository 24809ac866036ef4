use Rattle.maintainer.proofs.LawLemmas.{mark_rises}
use Rattle.maintainer.proofs.laws.placing_lowers_no_mark.Goals as goal

pub returns : goal.returns
returns g c = mark_rises
