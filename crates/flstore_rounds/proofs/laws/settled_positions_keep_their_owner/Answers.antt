use Rattle.flstore_rounds.proofs.EpochLemmas.{owner-prefix}
use Rattle.flstore_rounds.proofs.laws.settled_positions_keep_their_owner.Goals as goal

pub returns : goal.returns
returns c = owner-prefix
