use Rattle.toid_filter.proofs.LawsLemmas.{all_pass}
use Rattle.toid_filter.proofs.laws.numbers_pass_once_and_in_order.Goals as goal

pub returns : goal.returns
returns c = all_pass
