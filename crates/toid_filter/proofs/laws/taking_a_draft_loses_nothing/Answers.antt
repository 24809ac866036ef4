use Rattle.toid_filter.proofs.SumLemmas.{draft_loses_nothing}
use Rattle.toid_filter.proofs.laws.taking_a_draft_loses_nothing.Goals as goal

pub returns : goal.returns
returns c = draft_loses_nothing
