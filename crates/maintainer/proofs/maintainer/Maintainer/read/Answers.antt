use Rattle.std.proofs.Common.{refl, inl, inr}
use Rattle.std.proofs.lemmas.Bool.{false≢true}
use Rattle.maintainer.proofs.PassLemmas.{seen_shown, seen_gone, seen_empty}
use Rattle.maintainer.proofs.maintainer.Maintainer.read.Goals as goal

pub returns-in-Some-clause-gone : goal.returns-in-Some-clause-gone
returns-in-Some-clause-gone g c =
    let seen = seen_shown _ _ _ _ _ _ c.self.view_is _ _ _ _ c.self.invariant.0 c.deref.ensures.value c.in-Some.ensures in
    (λ is. absurd (cc), λ has. absurd (seen.1 has))

pub returns-in-Some-clause-empty : goal.returns-in-Some-clause-empty
returns-in-Some-clause-empty g c =
    let seen = seen_shown _ _ _ _ _ _ c.self.view_is _ _ _ _ c.self.invariant.0 c.deref.ensures.value c.in-Some.ensures in
    (λ is. absurd (cc), λ vacant. absurd (vacant seen.0))

pub returns-in-Some-clause-filled : goal.returns-in-Some-clause-filled
returns-in-Some-clause-filled g c =
    let seen = seen_shown _ _ _ _ _ _ c.self.view_is _ _ _ _ c.self.invariant.0 c.deref.ensures.value c.in-Some.ensures in
    (λ _. seen.0, λ _. inl refl)

pub returns-then-has_position-clause-gone : goal.returns-then-has_position-clause-gone
returns-then-has_position-clause-gone g c =
    let seen = seen_gone _ _ _ _ _ _ c.self.view_is _ _ _ c.deref-in-None.ensures.value c.has_position.ensures c.if-has_position.true in
    (λ _. seen.1, λ _. refl)

pub returns-then-has_position-clause-empty : goal.returns-then-has_position-clause-empty
returns-then-has_position-clause-empty g c =
    let seen = seen_gone _ _ _ _ _ _ c.self.view_is _ _ _ c.deref-in-None.ensures.value c.has_position.ensures c.if-has_position.true in
    (λ is. absurd (cc), λ vacant. absurd (vacant seen.0))

pub returns-then-has_position-clause-filled : goal.returns-then-has_position-clause-filled
returns-then-has_position-clause-filled g c =
    let seen = seen_gone _ _ _ _ _ _ c.self.view_is _ _ _ c.deref-in-None.ensures.value c.has_position.ensures c.if-has_position.true in
    (λ _. seen.0, λ _. inr refl)

pub returns-else-has_position-clause-gone : goal.returns-else-has_position-clause-gone
returns-else-has_position-clause-gone g c =
    let seen = seen_empty _ _ _ _ _ _ c.self.view_is _ _ _ _ c.deref.ensures.value c.deref-in-None.ensures.value c.in-None.ensures c.has_position.ensures c.if-has_position.false in
    (λ is. absurd (cc), λ has. absurd (seen.1 has))

pub returns-else-has_position-clause-empty : goal.returns-else-has_position-clause-empty
returns-else-has_position-clause-empty g c =
    let seen = seen_empty _ _ _ _ _ _ c.self.view_is _ _ _ _ c.deref.ensures.value c.deref-in-None.ensures.value c.in-None.ensures c.has_position.ensures c.if-has_position.false in
    (λ _. seen.0, λ _. refl)

pub returns-else-has_position-clause-filled : goal.returns-else-has_position-clause-filled
returns-else-has_position-clause-filled g c =
    let seen = seen_empty _ _ _ _ _ _ c.self.view_is _ _ _ _ c.deref.ensures.value c.deref-in-None.ensures.value c.in-None.ensures c.has_position.ensures c.if-has_position.false in
    (λ shown. elim shown [ inl none ↦ absurd (false≢true none) | inr gone ↦ absurd (cc) ], λ full. absurd (seen.0 full))
