use Rattle.post_assignment.proofs.LawLemmas.{appended_times, kept_times}
use Rattle.post_assignment.proofs.laws.appends_lose_nothing.Goals as goal

pub returns-clause-appended : goal.returns-clause-appended
returns-clause-appended g c = appended_times

pub returns-clause-kept : goal.returns-clause-kept
returns-clause-kept g c = kept_times
