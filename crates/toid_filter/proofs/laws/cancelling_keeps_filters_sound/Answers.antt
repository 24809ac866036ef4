use Rattle.toid_filter.proofs.MarkLemmas.{cancelled_sound}
use Rattle.toid_filter.proofs.laws.cancelling_keeps_filters_sound.Goals as goal

pub returns : goal.returns
returns c = cancelled_sound
