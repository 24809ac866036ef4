-- Positions in rising order: where one is put, and which are among them.
use Rattle.std.proofs.Common.{◌≡◌, ℕ, zero, suc, ◌+◌, ◌<◌, ◌≤◌, Bool, false, cond, ltb, leb, eqb, ◌&&◌, List, [], ◌∷◌, length, get_or, refl, ap, sym, ◌∙◌, inl, inr, arith}
use Rattle.std.specs.List.{All, AllWithin, insert, list_any}
use Rattle.std.specs.List.Sorted.{IsNonDecreasingBy}
use Rattle.std.proofs.lemmas.Bool.{cases_Bool, cases_lt, cases_eq, cond-true, cond-false, cond_both, lt-ltb, le-ltb, le-leb, lt-leb, ltb-false, ne_eqb, and_left, and_right}
use Rattle.std.proofs.lemmas.List.{get_or_default}
use Rattle.std.proofs.lemmas.List.Elements.{All-cons, All-head, All-tail}
use Rattle.std.proofs.lemmas.List.Folds.{list_any_none, list_any-from_Any}
use Rattle.std.proofs.lemmas.List.Sums.{sum_by-cons}
use Rattle.maintainer.proofs.Rising.{rises_non_decreasing}
use Rattle.maintainer.specs.Maintainers.{AreRisingPositions, is_some_within, put_position, times}

pub positions_non_decreasing : (ps : List ℕ) → AreRisingPositions ps → IsNonDecreasingBy (λ p. p) ps
positions_non_decreasing ps rising = rises_non_decreasing (λ (p : ℕ). p) ps (λ i j d lt inside. rising.below i j d lt inside)

-- where a position is put

pub times-put_position : (q p : ℕ) (ps : List ℕ) → times q (put_position p ps) ≡ times q ps + cond (eqb p q) 1 0
times-put_position q p [] = omega (arith, sum_by-cons (λ (x : ℕ). cond (eqb x q) 1 0) p [])
times-put_position q p (x ∷ xs) = cond_both (ltb p x) (p ∷ x ∷ xs) (x ∷ put_position p xs) (λ ys. times q ys ≡ times q (x ∷ xs) + cond (eqb p q) 1 0)
    (λ first. omega (arith, sum_by-cons (λ (y : ℕ). cond (eqb y q) 1 0) p (x ∷ xs)))
    (λ later. omega (arith, sum_by-cons (λ (y : ℕ). cond (eqb y q) 1 0) x (put_position p xs), sum_by-cons (λ (y : ℕ). cond (eqb y q) 1 0) x xs, times-put_position q p xs))

pub All-put_position : (P : ℕ → Type 0) (p : ℕ) (ps : List ℕ) → P p → All P ps → All P (put_position p ps)
All-put_position P p [] here all = All-cons P p [] here all
All-put_position P p (x ∷ xs) here all = cond_both (ltb p x) (p ∷ x ∷ xs) (x ∷ put_position p xs) (All P)
    (λ first. All-cons P p (x ∷ xs) here all)
    (λ later. All-cons P x (put_position p xs) (All-head P x xs all) (All-put_position P p xs here (All-tail P x xs all)))

-- the place found is the place by position
pub insert_is_put_position : (ps : List ℕ) (i p : ℕ) → i ≤ length ps → AllWithin (λ q. q < p) ps 0 i → AllWithin (λ q. p < q) ps i (length ps) → insert ps i p ≡ put_position p ps
insert_is_put_position [] zero p within below above = refl
insert_is_put_position [] (suc i) p within below above = absurd (omega arith)
insert_is_put_position (x ∷ xs) zero p within below above =
    sym (cond-true (ltb p x) (p ∷ x ∷ xs) (x ∷ put_position p xs) (lt-ltb p x (above 0 p (omega arith) (omega arith))))
insert_is_put_position (x ∷ xs) (suc i) p within below above =
    let low : x < p = below 0 p (omega arith) (omega arith) in
    ap (λ ys. x ∷ ys) (insert_is_put_position xs i p (omega arith) (λ k d from lt. below (suc k) d (omega arith) (omega arith)) (λ k d from lt. above (suc k) d (omega arith) (omega arith)))
    ∙ sym (cond-false (ltb p x) (p ∷ x ∷ xs) (x ∷ put_position p xs) (le-ltb p x (omega arith)))

-- where a test fails before place i, and after it if it fails there, it is that of the position there
any_first : (test : ℕ → Bool) (ps : List ℕ) (i x : ℕ) → i < length ps → x ≡ get_or ps i x → AllWithin (λ q. test q ≡ false) ps 0 i → (test x ≡ false → AllWithin (λ q. test q ≡ false) ps i (length ps)) → list_any test ps ≡ test x
any_first test ps i x within is before after = elim (cases_Bool (test x)) [
  | inl holds ↦ list_any-from_Any test ps (i, x, within, sym is, holds) ∙ sym holds
  | inr fails ↦ list_any_none test ps (λ k d inside. elim (cases_lt k i) [ inl low ↦ before k d (omega arith) low | inr high ↦ after fails k d high inside ]) ∙ sym fails
]

any_none : (test : ℕ → Bool) (ps : List ℕ) (i : ℕ) → length ps ≤ i → AllWithin (λ q. test q ≡ false) ps 0 i → list_any test ps ≡ false
any_none test ps i past before = list_any_none test ps (λ k d inside. before k d (omega arith) (omega arith))

-- the first position at or above low is at place i
module _ (ps : List ℕ) (i low : ℕ) (below : AllWithin (λ q. q < low) ps 0 i) (above : AllWithin (λ q. low ≤ q) ps i (length ps)) where
  out_below : (top : ℕ) → AllWithin (λ q. (leb low q && ltb q top) ≡ false) ps 0 i
  out_below top k d from lt = and_left (leb low (get_or ps k d)) (ltb (get_or ps k d) top) (lt-leb low (get_or ps k d) (below k d from lt))

  pub within_first : (top x : ℕ) → AreRisingPositions ps → i < length ps → x ≡ get_or ps i x → ltb x top ≡ is_some_within low top ps
  within_first top x rising inside is =
      let same : (leb low x && ltb x top) ≡ ltb x top = ap (λ b. b && ltb x top) (le-leb low x (omega (arith, is, above i x (omega arith) inside))) in
      sym (any_first (λ q. leb low q && ltb q top) ps i x inside is (out_below top)
      (λ fails k d from lt.
      let high : top ≤ x = ltb-false x top (sym same ∙ fails) in
      let later : x ≤ get_or ps k d = elim (cases_eq k i) [
        | inl here ↦ omega (arith, ap (λ n. get_or ps n d) here, get_or_default ps i d x inside, is)
        | inr there ↦ omega (arith, get_or_default ps i d x inside, is, rising.below i k d (omega (arith, there)) lt)
      ] in
      and_right (leb low (get_or ps k d)) (ltb (get_or ps k d) top) (le-ltb (get_or ps k d) top (omega arith)))
      ∙ same)

  pub within_none : (top : ℕ) → length ps ≤ i → false ≡ is_some_within low top ps
  within_none top past = sym (any_none (λ q. leb low q && ltb q top) ps i past (out_below top))

  apart_below : AllWithin (λ q. eqb q low ≡ false) ps 0 i
  apart_below k d from lt = ne_eqb (get_or ps k d) low (λ same. absurd (omega (arith, below k d from lt)))

  pub here_first : (x : ℕ) → AreRisingPositions ps → i < length ps → x ≡ get_or ps i x → eqb x low ≡ list_any (λ p. eqb p low) ps
  here_first x rising inside is =
      sym (any_first (λ q. eqb q low) ps i x inside is apart_below
      (λ fails k d from lt. elim (cases_eq k i) [
        | inl here ↦ ap (λ q. eqb q low) (ap (λ n. get_or ps n d) here ∙ get_or_default ps i d x inside ∙ sym is) ∙ fails
        | inr there ↦ ne_eqb (get_or ps k d) low (λ same. absurd (omega (arith, above i d (omega arith) inside, rising.below i k d (omega (arith, there)) lt)))
      ]))

  pub here_none : length ps ≤ i → false ≡ list_any (λ p. eqb p low) ps
  here_none past = sym (any_none (λ q. eqb q low) ps i past apart_below)
