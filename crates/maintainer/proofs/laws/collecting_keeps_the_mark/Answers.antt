use Rattle.maintainer.proofs.StateLemmas.{collected_mark}
use Rattle.maintainer.proofs.laws.collecting_keeps_the_mark.Goals as goal

pub returns : goal.returns
returns g c = collected_mark
