use Rattle.toid_filter.proofs.LawsLemmas.{champions_know}
use Rattle.toid_filter.proofs.laws.champions_lose_nothing.Goals as goal

pub returns : goal.returns
returns c = champions_know
