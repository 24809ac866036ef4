use Rattle.toid_filter.proofs.MarkLemmas.{grown_few, grown_sound}
use Rattle.toid_filter.proofs.laws.activating_keeps_filters_sound.Goals as goal

pub returns-clause-sound : goal.returns-clause-sound
returns-clause-sound c = λ shares a fs sound heard. grown_sound shares a fs sound heard

pub returns-clause-few : goal.returns-clause-few
returns-clause-few c = λ shares a fs sound heard few. grown_few shares a fs sound heard few
