use Rattle.toid_filter.proofs.LawsLemmas.{taken_is}
use Rattle.toid_filter.proofs.laws.takes_are_determined.Goals as goal

pub returns : goal.returns
returns c = taken_is
