use Rattle.maintainer.proofs.StateLemmas.{collected_value, collected_gone, collected_shown}
use Rattle.maintainer.proofs.laws.collecting_lets_one_value_go.Goals as goal

pub returns-clause-value : goal.returns-clause-value
returns-clause-value g c = collected_value

pub returns-clause-gone : goal.returns-clause-gone
returns-clause-gone g c = collected_gone

pub returns-clause-filled : goal.returns-clause-filled
returns-clause-filled g c = collected_shown
