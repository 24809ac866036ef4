use Rattle.toid_filter.proofs.LawsLemmas.{all_known}
use Rattle.toid_filter.proofs.laws.nothing_is_lost.Goals as goal

pub returns : goal.returns
returns c = all_known
