use Rattle.toid_filter.proofs.ShareLemmas.{shares_at}
use Rattle.toid_filter.proofs.champions.Champions.shares.Goals as goal

pub returns-in-Some-clause-shares : goal.returns-in-Some-clause-shares
returns-in-Some-clause-shares c = shares_at _ _ _ _ c.self.invariant.each c.in-Some.ensures.value c.as_slice.ensures
