use Rattle.toid_filter.proofs.FilterLemmas.{steady_sound}
use Rattle.toid_filter.proofs.laws.steady_filters_are_sound.Goals as goal

pub returns : goal.returns
returns c = steady_sound
