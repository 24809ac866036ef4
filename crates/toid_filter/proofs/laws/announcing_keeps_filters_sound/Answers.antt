use Rattle.toid_filter.proofs.MarkLemmas.{announced_sound}
use Rattle.toid_filter.proofs.laws.announcing_keeps_filters_sound.Goals as goal

pub returns : goal.returns
returns c = announced_sound
