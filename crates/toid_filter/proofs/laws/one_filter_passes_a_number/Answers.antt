use Rattle.toid_filter.proofs.LawsLemmas.{passed_once}
use Rattle.toid_filter.proofs.laws.one_filter_passes_a_number.Goals as goal

pub returns : goal.returns
returns c = passed_once
