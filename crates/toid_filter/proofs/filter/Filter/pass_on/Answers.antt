use Rattle.toid_filter.proofs.FilterLemmas.{steady_sound, steady_out}
use Rattle.toid_filter.proofs.filter.Filter.pass_on.Goals as goal

pub returns-clause-sound : goal.returns-clause-sound
returns-clause-sound c = steady_sound _ (steady_out _ _ c.self.invariant)
