use Rattle.toid_filter.proofs.MarkLemmas.{cancel_loses_nothing}
use Rattle.toid_filter.proofs.laws.cancelling_loses_nothing.Goals as goal

pub returns : goal.returns
returns c = cancel_loses_nothing
