use Rattle.flstore_rounds.proofs.HeadLemmas.{head_is, head_most, head_unique}
use Rattle.flstore_rounds.proofs.laws.heads_are_unique.Goals as goal

pub returns-clause-head : goal.returns-clause-head
returns-clause-head c = head_is

pub returns-clause-unique : goal.returns-clause-unique
returns-clause-unique c = head_unique

pub returns-clause-greatest : goal.returns-clause-greatest
returns-clause-greatest c = head_most
