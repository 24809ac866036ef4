use Rattle.maintainer.proofs.LawLemmas.{placed_value, placed_filled}
use Rattle.maintainer.proofs.laws.placing_adds_one_value.Goals as goal

pub returns-clause-value : goal.returns-clause-value
returns-clause-value g c = placed_value

pub returns-clause-filled : goal.returns-clause-filled
returns-clause-filled g c = placed_filled
