-- Slots by rising position: where one is inserted, and what stands at a position.
use Rattle.std.proofs.Common.{◌≡◌, ℕ, zero, suc, ◌+◌, ◌-◌, ◌^◌, ◌<◌, ◌≤◌, cond, ltb, eqb, List, [], ◌∷◌, length, get_or, take, drop, slice_get, Some, None, refl, ap, sym, ◌∙◌, inl, inr, arith}
use Rattle.std.specs.List.{All, AllWithin, insert}
use Rattle.std.specs.List.Sorted.{IsNonDecreasingBy}
use Rattle.std.proofs.lemmas.Bool.{cases_lt, cases_eq, cond-true, cond-false, cond_both, eq-eqb, ne_eqb, lt-ltb, le-ltb}
use Rattle.std.proofs.lemmas.List.Elements.{All-cons, All-head, All-tail, All-append, All-take, All-drop}
use Rattle.std.proofs.lemmas.Option.{get_or_from_slice_get}
use Rattle.std.proofs.lemmas.List.Sums.{sum_by-cons, sum_by-insert, get_or-le-sum_by}
use Rattle.flstore_rounds.specs.Epochs.{EpochList}
use Rattle.maintainer.specs.declared.slot.Slot.{Slot}
use Rattle.maintainer.proofs.Rising.{rises_non_decreasing, rises-insert}
use Rattle.maintainer.specs.Maintainers.{AreRising, AreKept, IsOwnedBy, times_in, value_at, put_in}

module _ {T : Type 0} where
  -- slot e has position p, for a count
  abbrev at_position : ℕ → Slot T → ℕ
  at_position p e = cond (eqb e.lid p) 1 0

  pub rising_non_decreasing : (es : List (Slot T)) → AreRising es → IsNonDecreasingBy (λ (e : Slot T). e.lid) es
  rising_non_decreasing es rising = rises_non_decreasing (λ (e : Slot T). e.lid) es rising.below

  -- how often p stands among the slots
  pub times_in-insert : (p i : ℕ) (e : Slot T) (es : List (Slot T)) → times_in p (insert es i e) ≡ times_in p es + cond (eqb e.lid p) 1 0
  times_in-insert p i e es = sum_by-insert (at_position p) es i e

  pub times_in-none : (p : ℕ) (es : List (Slot T)) → All (λ (e : Slot T). e.lid ≡ p → ⊥) es → times_in p es ≡ 0
  times_in-none p [] none = refl
  times_in-none p (e ∷ es) none =
      let here : e.lid ≡ p → ⊥ = All-head (λ (x : Slot T). x.lid ≡ p → ⊥) e es none in
      omega (arith, sum_by-cons (at_position p) e es, cond-false {A = ℕ} (eqb e.lid p) 1 0 (ne_eqb e.lid p here), times_in-none p es (All-tail (λ (x : Slot T). x.lid ≡ p → ⊥) e es none))

  pub times_in-some : (p i : ℕ) (d : Slot T) (es : List (Slot T)) → i < length es → (get_or es i d).lid ≡ p → 1 ≤ times_in p es
  times_in-some p i d es within is =
      omega (arith, get_or-le-sum_by (at_position p) es i d within, cond-true {A = ℕ} (eqb (get_or es i d).lid p) 1 0 (eq-eqb (get_or es i d).lid p is))

  pub vacant_none : (p : ℕ) (es : List (Slot T)) → (1 ≤ times_in p es → ⊥) → All (λ (e : Slot T). e.lid ≡ p → ⊥) es
  vacant_none p es vacant = λ k d within is. vacant (times_in-some p k d es within is)

  pub All-insert : (P : Slot T → Type 0) (es : List (Slot T)) (i : ℕ) (e : Slot T) → All P es → P e → All P (insert es i e)
  All-insert P es i e all here = All-append P (take i es) (e ∷ drop i es) (All-take P i es all) (All-cons P e (drop i es) here (All-drop P i es all))

  pub rising-insert : (es : List (Slot T)) (i : ℕ) (e : Slot T) → AreRising es → i ≤ length es → AllWithin (λ (x : Slot T). x.lid < e.lid) es 0 i → AllWithin (λ (x : Slot T). e.lid < x.lid) es i (length es) → AreRising (insert es i e)
  rising-insert es i e rising within below above = record { below = rises-insert (λ (x : Slot T). x.lid) es i e rising.below within below above }

  -- the place found is the place by position
  pub insert_is_put_in : (es : List (Slot T)) (i : ℕ) (e : Slot T) → i ≤ length es → AllWithin (λ (x : Slot T). x.lid < e.lid) es 0 i → AllWithin (λ (x : Slot T). e.lid < x.lid) es i (length es) → insert es i e ≡ put_in e es
  insert_is_put_in [] zero e within below above = refl
  insert_is_put_in [] (suc i) e within below above = absurd (omega arith)
  insert_is_put_in (x ∷ xs) zero e within below above =
      sym (cond-true (ltb e.lid x.lid) (e ∷ x ∷ xs) (x ∷ put_in e xs) (lt-ltb e.lid x.lid (above 0 e (omega arith) (omega arith))))
  insert_is_put_in (x ∷ xs) (suc i) e within below above =
      let low : x.lid < e.lid = below 0 e (omega arith) (omega arith) in
      ap (λ ys. x ∷ ys) (insert_is_put_in xs i e (omega arith) (λ k d from lt. below (suc k) d (omega arith) (omega arith)) (λ k d from lt. above (suc k) d (omega arith) (omega arith)))
      ∙ sym (cond-false (ltb e.lid x.lid) (e ∷ x ∷ xs) (x ∷ put_in e xs) (le-ltb e.lid x.lid (omega arith)))

  pub kept-insert : (epochs : EpochList) (number : ℕ) (es : List (Slot T)) (i : ℕ) (e : Slot T) → AreKept epochs number es → i ≤ length es → AllWithin (λ (x : Slot T). x.lid < e.lid) es 0 i → AllWithin (λ (x : Slot T). e.lid < x.lid) es i (length es)
      → IsOwnedBy epochs number e.lid → e.lid < 2 ^ 48 → AreKept epochs number (insert es i e)
  kept-insert epochs number es i e kept within below above own small = record {
    rising = rising-insert es i e kept.rising within below above;
    own = All-insert (λ (x : Slot T). IsOwnedBy epochs number x.lid) es i e kept.own own;
    small = All-insert (λ (x : Slot T). x.lid < 2 ^ 48) es i e kept.small small;
  }

  -- the first slot at or above p has it
  pub value_at-found : (p i : ℕ) (d : Slot T) (es : List (Slot T)) → i < length es → AllWithin (λ (x : Slot T). x.lid < p) es 0 i → (get_or es i d).lid ≡ p → value_at p es ≡ Some (get_or es i d).value
  value_at-found p i d [] within below is = absurd (omega arith)
  value_at-found p zero d (x ∷ xs) within below is = cond-true (eqb x.lid p) (Some x.value) (value_at p xs) (eq-eqb x.lid p is)
  value_at-found p (suc i) d (x ∷ xs) within below is =
      let low : x.lid < p = below 0 d (omega arith) (omega arith) in
      cond-false (eqb x.lid p) (Some x.value) (value_at p xs) (ne_eqb x.lid p (λ same. absurd (omega arith)))
      ∙ value_at-found p i d xs (omega arith) (λ k e from lt. below (suc k) e (omega arith) (omega arith)) is

  pub value_at-here : (p i : ℕ) (x : Slot T) (es : List (Slot T)) → i < length es → AllWithin (λ (e : Slot T). e.lid < p) es 0 i → x ≡ get_or es i x → x.lid ≡ p → value_at p es ≡ Some x.value
  value_at-here p i x es within below is at = value_at-found p i x es within below (ap (λ (e : Slot T). e.lid) (sym is) ∙ at) ∙ ap (λ (e : Slot T). Some e.value) (sym is)

  pub value_at-none : (p : ℕ) (es : List (Slot T)) → All (λ (e : Slot T). e.lid ≡ p → ⊥) es → value_at p es ≡ None
  value_at-none p [] none = refl
  value_at-none p (x ∷ xs) none =
      cond-false (eqb x.lid p) (Some x.value) (value_at p xs) (ne_eqb x.lid p (All-head (λ (e : Slot T). e.lid ≡ p → ⊥) x xs none))
      ∙ value_at-none p xs (All-tail (λ (e : Slot T). e.lid ≡ p → ⊥) x xs none)

  pub value_at-vacant : (p : ℕ) (es : List (Slot T)) → value_at p es ≡ None → times_in p es ≡ 0
  value_at-vacant p [] is = refl
  value_at-vacant p (x ∷ xs) is = elim (cases_eq x.lid p) [
    | inl same ↦ let some : Some x.value ≡ None = sym (cond-true (eqb x.lid p) (Some x.value) (value_at p xs) (eq-eqb x.lid p same)) ∙ is in absurd (cc)
    | inr other ↦ omega (
      arith,
      sum_by-cons (at_position p) x xs,
      cond-false {A = ℕ} (eqb x.lid p) 1 0 (ne_eqb x.lid p other),
      value_at-vacant p xs (sym (cond-false (eqb x.lid p) (Some x.value) (value_at p xs) (ne_eqb x.lid p other)) ∙ is),
    )
  ]

  pub value_at-filled : (p : ℕ) (v : T) (es : List (Slot T)) → value_at p es ≡ Some v → 1 ≤ times_in p es
  value_at-filled p v [] is = absurd (cc)
  value_at-filled p v (x ∷ xs) is = elim (cases_eq x.lid p) [
    | inl same ↦ omega (arith, sum_by-cons (at_position p) x xs, cond-true {A = ℕ} (eqb x.lid p) 1 0 (eq-eqb x.lid p same))
    | inr other ↦ omega (
      arith,
      sum_by-cons (at_position p) x xs,
      value_at-filled p v xs (sym (cond-false (eqb x.lid p) (Some x.value) (value_at p xs) (ne_eqb x.lid p other)) ∙ is),
    )
  ]

  -- no slot is between those below p and those above it, unless it has p
  pub value_at-passed : (p i : ℕ) (es : List (Slot T)) → AreRising es → AllWithin (λ (x : Slot T). x.lid < p) es 0 i → (i < length es → (d : Slot T) → (get_or es i d).lid ≡ p → ⊥) → AllWithin (λ (x : Slot T). p ≤ x.lid) es i (length es) → value_at p es ≡ None
  value_at-passed p i es rising below other above = value_at-none p es (λ j d inside same. elim (cases_lt j i) [
    | inl low ↦ absurd (omega (arith, below j d (omega arith) low))
    | inr high ↦ elim (cases_eq j i) [
      | inl here ↦ other (omega arith) d (ap (λ n. (get_or es n d).lid) (sym here) ∙ same)
      | inr past ↦ absurd (omega (arith, above i d (omega arith) (omega (arith, past)), rising.below i j d (omega (arith, past)) inside))
    ]
  ])

  -- all are below p where the last is
  pub below_last : (p : ℕ) (last : Slot T) (es : List (Slot T)) → AreRising es → Some last ≡ slice_get es (length es - 1) → last.lid < p → AllWithin (λ (x : Slot T). x.lid < p) es 0 (length es)
  below_last p last es rising is low = λ j d from inside.
      let at : (get_or es (length es - 1) d).lid ≡ last.lid = ap (λ (x : Slot T). x.lid) (get_or_from_slice_get es (length es - 1) last d (sym is)) in
      elim (cases_eq j (length es - 1)) [
        | inl same ↦ omega (arith, at, ap (λ n. (get_or es n d).lid) same)
        | inr other ↦ omega (arith, at, rising.below j (length es - 1) d (omega (arith, other)) (omega arith))
      ]

  -- for callers: the entry is there once more, and what holds of all holds on
  pub times_in-put_in : (p : ℕ) (e : Slot T) (es : List (Slot T)) → times_in p (put_in e es) ≡ cond (eqb e.lid p) 1 0 + times_in p es
  times_in-put_in p e [] = sum_by-cons (at_position p) e []
  times_in-put_in p e (x ∷ xs) = cond_both (ltb e.lid x.lid) (e ∷ x ∷ xs) (x ∷ put_in e xs) (λ es. times_in p es ≡ cond (eqb e.lid p) 1 0 + times_in p (x ∷ xs))
      (λ first. sum_by-cons (at_position p) e (x ∷ xs))
      (λ later. omega (arith, sum_by-cons (at_position p) x (put_in e xs), sum_by-cons (at_position p) x xs, times_in-put_in p e xs))

  pub All-put_in : (P : Slot T → Type 0) (e : Slot T) (es : List (Slot T)) → P e → All P es → All P (put_in e es)
  All-put_in P e [] here all = All-cons P e [] here all
  All-put_in P e (x ∷ xs) here all = cond_both (ltb e.lid x.lid) (e ∷ x ∷ xs) (x ∷ put_in e xs) (All P)
      (λ first. All-cons P e (x ∷ xs) here all)
      (λ later. All-cons P x (put_in e xs) (All-head P x xs all) (All-put_in P e xs here (All-tail P x xs all)))
