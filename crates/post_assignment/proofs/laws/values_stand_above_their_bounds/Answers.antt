use Rattle.post_assignment.proofs.LawLemmas.{appended_above, kept_above}
use Rattle.post_assignment.proofs.laws.values_stand_above_their_bounds.Goals as goal

pub returns-clause-appended : goal.returns-clause-appended
returns-clause-appended g c = appended_above

pub returns-clause-kept : goal.returns-clause-kept
returns-clause-kept g c = kept_above
