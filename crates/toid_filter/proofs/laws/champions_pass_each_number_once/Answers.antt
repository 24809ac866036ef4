use Rattle.toid_filter.proofs.LawsLemmas.{champions_pass}
use Rattle.toid_filter.proofs.laws.champions_pass_each_number_once.Goals as goal

pub returns : goal.returns
returns c = champions_pass
