use Rattle.log_gc.proofs.PinLemmas.{raised_held}
use Rattle.log_gc.proofs.gc.Gc.raise_floor.Goals as goal

pub invariant_of-self : goal.invariant_of-self
invariant_of-self c = raised_held _ _ _ _ _ c.self.invariant c.least_pin-lowest.ensures c.max-self-inside.ensures
