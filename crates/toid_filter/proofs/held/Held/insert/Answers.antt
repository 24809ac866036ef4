use Rattle.toid_filter.proofs.HeldLemmas.{inserted_in, named_again, values_are}
use Rattle.toid_filter.proofs.held.Held.insert.Goals as goal

pub invariant_of-self : goal.invariant_of-self
invariant_of-self c = named_again _ _ (inserted_in _ _ c.self.invariant c.self.view_is c.args.rec _ c.insert.ensures.was_ordered c.requires c.in-Ok.ensures.entries)

pub returns-in-Ok-clause-ok : goal.returns-in-Ok-clause-ok
returns-in-Ok-clause-ok c = values_are _ _ (inserted_in _ _ c.self.invariant c.self.view_is c.args.rec _ c.insert.ensures.was_ordered c.requires c.in-Ok.ensures.entries)
