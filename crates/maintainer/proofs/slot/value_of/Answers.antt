use Rattle.std.proofs.Common.{ap, sym, ◌∙◌, arith}
use Rattle.maintainer.proofs.SlotLemmas.{value_at-here, value_at-passed}
use Rattle.maintainer.proofs.slot.value_of.Goals as goal

pub returns-in_default : goal.returns-in_default
returns-in_default g c =
    let past = c.in_default.ensures.lookup.3 in
    sym (value_at-passed _ _ _ c.requires c.slots_below.ensures.below (λ within. absurd (omega (arith, past))) c.slots_below.ensures.above)

pub returns-then-slot-lid : goal.returns-then-slot-lid
returns-then-slot-lid g c =
    let found = c.in-Some.ensures.lookup in
    sym (value_at-here _ _ _ _ found.3.0 c.slots_below.ensures.below found.1 c.if-slot-lid.true)

pub returns-else-slot-lid : goal.returns-else-slot-lid
returns-else-slot-lid g c =
    let found = c.in-Some.ensures.lookup in
    sym (value_at-passed _ _ _ c.requires c.slots_below.ensures.below (λ _ d same. c.if-slot-lid.false (ap (λ e. e.lid) (found.3.1 d) ∙ same)) c.slots_below.ensures.above)
