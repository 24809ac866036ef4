use Rattle.flstore_rounds.proofs.EpochLemmas.{next_is_least}
use Rattle.flstore_rounds.proofs.laws.the_next_start_is_the_least.Goals as goal

pub returns : goal.returns
returns c = next_is_least
