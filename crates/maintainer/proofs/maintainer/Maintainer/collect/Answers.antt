use Rattle.std.proofs.Common.{length, ap, arith}
use Rattle.maintainer.proofs.CollectLemmas.{collecting_there, collecting_value, collecting_state, collecting_sound}
use Rattle.maintainer.proofs.maintainer.Maintainer.collect.Goals as goal

pub remove-value-requires : goal.remove-value-requires
remove-value-requires g c =
    let there = collecting_there _ _ _ _ _ _ _ _ _ _ c.self.view_is c.self.invariant.0 c.requires c.deref.ensures.value c.slots_below.ensures.below c.slots_below.ensures.above in
    omega (arith, there.0, ap length c.deref.ensures.value, c.deref.ensures.len)

pub invariant_of-self : goal.invariant_of-self
invariant_of-self g c =
    let items = rw c.unwrap.ensures at c.insert.ensures.items in
    let len = rw c.unwrap.ensures at c.insert.ensures.len in (
      collecting_sound _ _ _ _ _ _ _ _ _ _ c.self.view_is c.self.invariant.0 c.requires c.deref.ensures.value c.slots_below.ensures.below c.slots_below.ensures.above _ _ _ _ c.deref-2.ensures.value c.positions_below.ensures.within c.positions_below.ensures.below c.positions_below.ensures.above c.remove-value.ensures.items items,
      omega (arith, c.remove-value.ensures.len, c.remove-value.ensures.capacity, c.self.invariant.1),
      omega (arith, len, c.remove-value.ensures.len, c.insert.ensures.capacity, c.self.invariant.2),
    )

pub returns-clause-value : goal.returns-clause-value
returns-clause-value g c = collecting_value _ _ _ _ _ _ _ _ _ _ c.self.view_is c.self.invariant.0 c.requires c.deref.ensures.value c.slots_below.ensures.below c.slots_below.ensures.above _ c.remove-value.ensures.value

pub returns-clause-state : goal.returns-clause-state
returns-clause-state g c =
    let items = rw c.unwrap.ensures at c.insert.ensures.items in
    collecting_state _ _ _ _ _ _ _ _ _ _ c.self.view_is c.self.invariant.0 c.requires c.deref.ensures.value c.slots_below.ensures.below c.slots_below.ensures.above _ _ _ _ c.deref-2.ensures.value c.positions_below.ensures.within c.positions_below.ensures.below c.positions_below.ensures.above c.remove-value.ensures.items items
