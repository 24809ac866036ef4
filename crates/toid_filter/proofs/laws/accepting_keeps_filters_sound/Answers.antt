use Rattle.toid_filter.proofs.MarkLemmas.{accepted_sound}
use Rattle.toid_filter.proofs.laws.accepting_keeps_filters_sound.Goals as goal

pub returns : goal.returns
returns c = accepted_sound
