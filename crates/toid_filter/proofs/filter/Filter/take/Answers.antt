use Rattle.std.proofs.Common.{◌∙◌, ◌≡◌, false, subst, sym, rules}
use Rattle.toid_filter.specs.Filters.{IsSteady}
use Rattle.toid_filter.proofs.FilterLemmas.{steady_sound}
use Rattle.toid_filter.proofs.Running.{hold_taken, sound_held, unheld_same}
use Rattle.toid_filter.proofs.filter.Filter.take.Goals as goal

pub returns-then-knows-clause-sound : goal.returns-then-knows-clause-sound
returns-then-knows-clause-sound c = steady_sound _ (subst IsSteady c.self.view_is c.self.invariant)

pub returns-in_err-insert-clause-sound : goal.returns-in_err-insert-clause-sound
returns-in_err-insert-clause-sound c = sound_held _ _ c.in_err-insert.ensures.err c.self.invariant

pub insert-requires : goal.insert-requires
insert-requires c =
    let new : c.knows.result ≡ false = search rules in
    unheld_same _ _ _ _ c.self.view_is (sym c.knows.ensures ∙ new)

pub invariant_of-self-2 : goal.invariant_of-self-2
invariant_of-self-2 c =
    let new : c.knows.result ≡ false = search rules in
    let unfree : c.may_pass.result ≡ false = search rules in
    (hold_taken _ _ _ _ c.self.view_is c.self.invariant c.requires (sym c.knows.ensures ∙ new) (sym c.may_pass.ensures ∙ unfree) c.in_ok-insert.ensures.ok).1

pub returns-clause-ok : goal.returns-clause-ok
returns-clause-ok c =
    let new : c.knows.result ≡ false = search rules in
    let unfree : c.may_pass.result ≡ false = search rules in
    (hold_taken _ _ _ _ c.self.view_is c.self.invariant c.requires (sym c.knows.ensures ∙ new) (sym c.may_pass.ensures ∙ unfree) c.in_ok-insert.ensures.ok).0

pub returns-clause-sound : goal.returns-clause-sound
returns-clause-sound c =
    let new : c.knows.result ≡ false = search rules in
    let unfree : c.may_pass.result ≡ false = search rules in
    steady_sound _ (hold_taken _ _ _ _ c.self.view_is c.self.invariant c.requires (sym c.knows.ensures ∙ new) (sym c.may_pass.ensures ∙ unfree) c.in_ok-insert.ensures.ok).1
