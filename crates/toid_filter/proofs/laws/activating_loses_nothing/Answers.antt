use Rattle.toid_filter.proofs.MarkLemmas.{activation_loses_nothing}
use Rattle.toid_filter.proofs.laws.activating_loses_nothing.Goals as goal

pub returns : goal.returns
returns c = activation_loses_nothing
