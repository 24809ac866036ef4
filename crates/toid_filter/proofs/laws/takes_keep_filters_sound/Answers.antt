use Rattle.toid_filter.proofs.LawsLemmas.{all_steady}
use Rattle.toid_filter.proofs.FilterLemmas.{steady_sound}
use Rattle.toid_filter.proofs.laws.takes_keep_filters_sound.Goals as goal

pub returns : goal.returns
returns c = λ f g rs vs steady took. let after = all_steady f g rs vs steady took in (after, steady_sound g after)
