use Rattle.toid_filter.proofs.GrowthLemmas.{goes_on_sound, goes_on_once}
use Rattle.toid_filter.proofs.laws.growing_filters_pass_each_number_once.Goals as goal

pub returns-clause-sound : goal.returns-clause-sound
returns-clause-sound c = goes_on_sound

pub returns-clause-once : goal.returns-clause-once
returns-clause-once c = goes_on_once
