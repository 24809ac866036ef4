use Rattle.toid_filter.proofs.LawsLemmas.{new_sound}
use Rattle.toid_filter.proofs.laws.new_filters_are_sound.Goals as goal

pub returns : goal.returns
returns c = new_sound
