-- The mark as a number is the mark.
use Rattle.std.proofs.Common.{◌≡◌, ℕ, zero, suc, ◌+◌, ◌<◌, ◌≤◌, max, cond, ltb, eqb, List, [], ◌∷◌, refl, ap, sym, ◌∙◌, inl, inr, arith}
use Rattle.std.specs.List.{fold, All}
use Rattle.std.proofs.lemmas.Bool.{cases_lt, cases_eq, cond_both, cond-false, eqb-true, eqb-false, ne_eqb, ltb-true, ltb-false}
use Rattle.std.proofs.lemmas.List.Elements.{All-nil, All-cons, All-head, All-tail}
use Rattle.std.proofs.lemmas.List.Sums.{sum_by-cons}
use Rattle.flstore_rounds.specs.Epochs.{owner}
use Rattle.maintainer.specs.Marks.{IsOwnReached}
use Rattle.maintainer.specs.declared.slot.Slot.{Slot}
use Rattle.maintainer.specs.Maintainers.{MaintainerState, IsOwn, IsFilled, IsMark, times, times_in, times_filled, greatest, mark_from, mark_of}
use Rattle.maintainer.proofs.MarkLemmas.{gapless_on, mark_unique}
use Rattle.maintainer.proofs.SlotLemmas.{times_in-none}

-- a greatest number is at least each
fold_max_bounds : {X : Type 0} (f : X → ℕ) (a : ℕ) (xs : List X) → (a ≤ fold (λ b x. max b (f x)) a xs) × All (λ x. f x ≤ fold (λ b y. max b (f y)) a xs) xs
fold_max_bounds f a [] = (omega arith, All-nil (λ x. f x ≤ a))
fold_max_bounds f a (x ∷ xs) =
    let rest = fold_max_bounds f (max a (f x)) xs in
    (omega (arith, rest.0), All-cons (λ y. f y ≤ fold (λ b z. max b (f z)) (max a (f x)) xs) x xs (omega (arith, rest.0)) rest.1)

-- a position that is not there is counted 0 times
pub times-none : (p : ℕ) (ps : List ℕ) → All (λ q. q ≡ p → ⊥) ps → times p ps ≡ 0
times-none p [] none = refl
times-none p (q ∷ qs) none =
    let here : q ≡ p → ⊥ = All-head (λ x. x ≡ p → ⊥) q qs none in
    omega (arith, sum_by-cons (λ x. cond (eqb x p) 1 0) q qs, cond-false {A = ℕ} (eqb q p) 1 0 (ne_eqb q p here), times-none p qs (All-tail (λ x. x ≡ p → ⊥) q qs none))

module _ {T : Type 0} (m : MaintainerState T) where
  -- nothing is filled from p + n on, and no own position lies from k to p
  mark_goes : (n p k : ℕ) → 1 ≤ p → k ≤ p → IsOwnReached (IsOwn m) (IsFilled m) k → ((q : ℕ) → k ≤ q → q < p → IsOwn m q → ⊥) → ((q : ℕ) → p + n ≤ q → IsFilled m q → ⊥) → IsMark m (mark_from m n p k)
  mark_goes zero p k first low reached none empty = record {
    reached = reached;
    greatest = λ q full. elim (cases_lt q k) [
      | inl lt ↦ lt
      | inr ge ↦ elim (cases_lt q p) [
        | inl between ↦ absurd (none q ge between full.here)
        | inr above ↦ absurd (empty q (omega arith) (full.all q (omega arith) full.here))
      ]
    ];
  }
  mark_goes (suc n) p k first low reached none empty =
      cond_both (eqb (owner m.epochs p) m.number) (cond (ltb 0 (times_filled p m)) (mark_from m n (p + 1) (p + 1)) k) (mark_from m n (p + 1) k) (IsMark m)
      (λ mine. let own : IsOwn m p = record { first = first; owner = eqb-true (owner m.epochs p) m.number mine } in
      cond_both (ltb 0 (times_filled p m)) (mark_from m n (p + 1) (p + 1)) k (IsMark m)
      (λ has. let full : IsFilled m p = ltb-true 0 (times_filled p m) has in
      mark_goes n (p + 1) (p + 1) (omega arith) (omega arith) (inr (p, refl, gapless_on (IsOwn m) (IsFilled m) k p reached (λ q is. is.first) own full none))
      (λ q ge lt is. absurd (omega arith)) (λ q ge. empty q (omega arith)))
      (λ lacks. let le : times_filled p m ≤ 0 = ltb-false 0 (times_filled p m) lacks in
      record {
        reached = reached;
        greatest = λ q up. elim (cases_lt q k) [
          | inl lt ↦ lt
          | inr ge ↦ elim (cases_lt q p) [
            | inl between ↦ absurd (none q ge between up.here)
            | inr above ↦ let full : IsFilled m p = up.all p above own in absurd (omega arith)
          ]
        ];
      }))
      (λ other. mark_goes n (p + 1) k (omega arith) (omega arith) reached
      (λ q ge lt is. elim (cases_eq q p) [
        | inl same ↦ absurd (eqb-false (owner m.epochs p) m.number other (ap (owner m.epochs) (sym same) ∙ is.owner))
        | inr differs ↦ none q ge (omega (arith, differs)) is
      ])
      (λ q ge. empty q (omega arith)))

  above_greatest : (q : ℕ) → 1 + greatest m ≤ q → IsFilled m q → ⊥
  above_greatest q ge full =
      let gone = fold_max_bounds (λ (x : ℕ). x) 0 m.gone in
      let entries = fold_max_bounds (λ (e : Slot T). e.lid) (fold max 0 m.gone) m.entries in
      let none : times_in q m.entries ≡ 0 = times_in-none q m.entries (λ j d inside same. absurd (omega (arith, entries.1 j d inside))) in
      let lost : times q m.gone ≡ 0 = times-none q m.gone (λ j d inside same. absurd (omega (arith, gone.1 j d inside, entries.0))) in
      absurd (omega arith)

  pub is_mark : IsMark m (mark_of m)
  is_mark = mark_goes (greatest m) 1 1 (omega arith) (omega arith) (inl refl) (λ q ge lt own. absurd (omega arith)) above_greatest

  pub mark_is : (k : ℕ) → IsMark m k → k ≡ mark_of m
  mark_is k mark = mark_unique (IsOwn m) (IsFilled m) k (mark_of m) (λ p own. own.first) mark is_mark
