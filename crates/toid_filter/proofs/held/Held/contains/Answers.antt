use Rattle.toid_filter.proofs.HeldLemmas.{contains_in}
use Rattle.toid_filter.proofs.held.Held.contains.Goals as goal

pub returns : goal.returns
returns c = contains_in _ _ c.self.invariant c.self.view_is c.args.h c.args.t _ c.contains_key.ensures
