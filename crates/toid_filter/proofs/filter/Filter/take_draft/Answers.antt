use Rattle.toid_filter.proofs.FilterLemmas.{steady_sound, steady_out}
use Rattle.toid_filter.proofs.filter.Filter.take_draft.Goals as goal

pub returns-then-is_err-clause-sound : goal.returns-then-is_err-clause-sound
returns-then-is_err-clause-sound c = steady_sound _ (steady_out _ _ c.self.invariant)

pub returns-clause-sound : goal.returns-clause-sound
returns-clause-sound c = steady_sound _ (steady_out _ _ c.self.invariant)
