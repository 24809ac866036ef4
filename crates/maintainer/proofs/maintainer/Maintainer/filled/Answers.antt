use Rattle.maintainer.proofs.PassLemmas.{passing_sound, seen_mark}
use Rattle.maintainer.proofs.maintainer.Maintainer.filled.Goals as goal

pub returns-clause-value : goal.returns-clause-value
returns-clause-value g c = seen_mark _ _ _ _ _ _ c.self.view_is _ c.self.invariant.0

pub returns-clause-within : goal.returns-clause-within
returns-clause-within g c = let now = passing_sound _ _ _ _ _ c.self.invariant.0 in (now.first, now.small)
