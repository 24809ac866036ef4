use Rattle.std.proofs.Common.{◌≤◌, refl, sym, subst, ◌∙◌, arith}
use Rattle.maintainer.proofs.PassLemmas.{placing_kept, placing_reached, placing_small, placing_sound, placing_state}
use Rattle.maintainer.proofs.maintainer.Maintainer.place.Goals as goal

pub mark_past-self-inside-requires-clause-slots : goal.mark_past-self-inside-requires-clause-slots
mark_past-self-inside-requires-clause-slots g c =
    let items = rw c.unwrap.ensures at c.insert.ensures.items in
    (placing_kept _ _ _ _ _ _ _ _ _ _ _ _ c.self.view_is c.self.invariant.0 c.deref.ensures.value c.slots_below-at.ensures.within c.slots_below-at.ensures.below c.slots_below-at.ensures.above c.requires.own c.requires.small c.requires.vacant (c.deref-2.ensures.value ∙ items)).rising

pub mark_past-self-inside-requires-clause-small : goal.mark_past-self-inside-requires-clause-small
mark_past-self-inside-requires-clause-small g c =
    let items = rw c.unwrap.ensures at c.insert.ensures.items in
    placing_small _ _ _ _ _ _ _ _ _ _ _ _ c.self.view_is c.self.invariant.0 c.deref.ensures.value c.slots_below-at.ensures.within c.slots_below-at.ensures.below c.slots_below-at.ensures.above c.requires.own c.requires.small c.requires.vacant (c.deref-2.ensures.value ∙ items) _ c.deref-3.ensures.value

pub mark_past-self-inside-requires-clause-reached : goal.mark_past-self-inside-requires-clause-reached
mark_past-self-inside-requires-clause-reached g c =
    let items = rw c.unwrap.ensures at c.insert.ensures.items in
    placing_reached _ _ _ _ _ _ _ _ _ _ _ _ c.self.view_is c.self.invariant.0 c.deref.ensures.value c.slots_below-at.ensures.within c.slots_below-at.ensures.below c.slots_below-at.ensures.above c.requires.own c.requires.small c.requires.vacant (c.deref-2.ensures.value ∙ items) _ c.deref-3.ensures.value

pub invariant_of-self : goal.invariant_of-self
invariant_of-self g c =
    let items = rw c.unwrap.ensures at c.insert.ensures.items in
    let len = rw c.unwrap.ensures at c.insert.ensures.len in
    let room = subst (λ m. 1 ≤ m.spare) (sym c.self.view_is) c.requires.room in (
      placing_sound _ _ _ _ _ _ _ _ _ _ _ _ c.self.view_is c.self.invariant.0 c.deref.ensures.value c.slots_below-at.ensures.within c.slots_below-at.ensures.below c.slots_below-at.ensures.above c.requires.own c.requires.small c.requires.vacant items _ _ _ c.deref-2.ensures.value c.deref-3.ensures.value c.mark_past-self-inside.ensures.mark,
      omega (arith, len, room, c.insert.ensures.capacity, c.self.invariant.1),
      omega (arith, len, room, c.self.invariant.2),
    )

pub returns : goal.returns
returns g c =
    let items = rw c.unwrap.ensures at c.insert.ensures.items in
    placing_state _ _ _ _ _ _ _ _ _ _ _ _ c.self.view_is c.self.invariant.0 c.deref.ensures.value c.slots_below-at.ensures.within c.slots_below-at.ensures.below c.slots_below-at.ensures.above c.requires.own c.requires.small c.requires.vacant items _ refl
