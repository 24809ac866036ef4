use Rattle.std.proofs.Common.{subst}
use Rattle.toid_filter.specs.Filters.{IsSteady}
use Rattle.toid_filter.proofs.FilterLemmas.{steady_sound}
use Rattle.toid_filter.proofs.filter.Filter.fits.Goals as goal

pub returns-then-rec-ge1-clause-sound : goal.returns-then-rec-ge1-clause-sound
returns-then-rec-ge1-clause-sound c = steady_sound _ (subst IsSteady c.self.view_is c.self.invariant)

pub returns-else-rec-ge1-clause-sound : goal.returns-else-rec-ge1-clause-sound
returns-else-rec-ge1-clause-sound c = steady_sound _ (subst IsSteady c.self.view_is c.self.invariant)
