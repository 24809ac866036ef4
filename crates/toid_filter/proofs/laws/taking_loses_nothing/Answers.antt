use Rattle.toid_filter.proofs.SumLemmas.{take_loses_nothing}
use Rattle.toid_filter.proofs.laws.taking_loses_nothing.Goals as goal

pub returns : goal.returns
returns c = λ f g r v steady fits took. take_loses_nothing f r v g steady fits took
