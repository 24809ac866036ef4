use Rattle.toid_filter.proofs.LawsLemmas.{champions_sound}
use Rattle.toid_filter.proofs.laws.champions_keep_filters_sound.Goals as goal

pub returns : goal.returns
returns c = champions_sound
