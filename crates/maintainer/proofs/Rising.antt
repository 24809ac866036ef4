-- Lists along which a number rises: what inserting and removing an element keeps.
use Rattle.std.proofs.Common.{◌≡◌, ℕ, ◌+◌, ◌-◌, ◌<◌, ◌≤◌, List, length, get_or, ap, ◌∙◌, inl, inr, arith}
use Rattle.std.specs.List.{AllWithin, insert, remove}
use Rattle.std.specs.List.Sorted.{IsNonDecreasingBy}
use Rattle.std.proofs.lemmas.Bool.{cases_lt, cases_eq}
use Rattle.std.proofs.lemmas.List.Edits.{length-insert, length-remove, get_or-insert_below, get_or-insert_at, get_or-insert_above, get_or-remove_below, get_or-remove_above}

module _ {X : Type 0} (f : X → ℕ) where
  abbrev pub Rises : List X → Type 0
  Rises xs = (i j : ℕ) (d : X) → i < j → j < length xs → f (get_or xs i d) < f (get_or xs j d)

  pub rises_non_decreasing : (xs : List X) → Rises xs → IsNonDecreasingBy f xs
  rises_non_decreasing xs rising = λ i j d le within. elim (cases_lt i j) [
    | inl lt ↦ omega (arith, rising i j d lt within)
    | inr ge ↦ let same : i ≡ j = omega arith in omega (arith, ap (λ n. f (get_or xs n d)) same)
  ]

  pub rises-insert : (xs : List X) (i : ℕ) (x : X) → Rises xs → i ≤ length xs → AllWithin (λ y. f y < f x) xs 0 i → AllWithin (λ y. f x < f y) xs i (length xs) → Rises (insert xs i x)
  rises-insert xs i x rising within below above = λ a b d lt inside. ordered a b d lt (omega (arith, length-insert xs i x within))
    where
      before : (d : X) (k : ℕ) → k < i → f (get_or (insert xs i x) k d) ≡ f (get_or xs k d)
      before d k lt = ap f (get_or-insert_below xs i x d k lt within)

      here : (d : X) (k : ℕ) → k ≡ i → f (get_or (insert xs i x) k d) ≡ f x
      here d k same = ap (λ n. f (get_or (insert xs i x) n d)) same ∙ ap f (get_or-insert_at xs i x d within)

      after : (d : X) (k j : ℕ) → k ≡ j + 1 → i ≤ j → f (get_or (insert xs i x) k d) ≡ f (get_or xs j d)
      after d k j same le = ap (λ n. f (get_or (insert xs i x) n d)) same ∙ ap f (get_or-insert_above xs i x d j le within)

      ordered : (a b : ℕ) (d : X) → a < b → b < length xs + 1 → f (get_or (insert xs i x) a d) < f (get_or (insert xs i x) b d)
      ordered a b d lt inside = elim (cases_lt b i) [
        | inl low ↦ omega (arith, before d a (omega arith), before d b low, rising a b d lt (omega arith))
        | inr high ↦ elim (cases_eq b i) [
          | inl same ↦ omega (arith, before d a (omega arith), here d b same, below a d (omega arith) (omega arith))
          | inr other ↦ let next : b ≡ (b - 1) + 1 = omega (arith, other) in elim (cases_lt a i) [
            | inl first ↦ omega (arith, before d a first, after d b (b - 1) next (omega (arith, other)), rising a (b - 1) d (omega (arith, other)) (omega arith))
            | inr later ↦ elim (cases_eq a i) [
              | inl at ↦ omega (arith, here d a at, after d b (b - 1) next (omega (arith, other)), above (b - 1) d (omega (arith, other)) (omega arith))
              | inr past ↦ let before_it : a ≡ (a - 1) + 1 = omega (arith, past) in
                  omega (arith, after d a (a - 1) before_it (omega (arith, past)), after d b (b - 1) next (omega (arith, other)), rising (a - 1) (b - 1) d (omega (arith, past)) (omega arith))
            ]
          ]
        ]
      ]

  pub rises-remove : (xs : List X) (i : ℕ) → i < length xs → Rises xs → Rises (remove xs i)
  rises-remove xs i within rising = λ a b d lt inside.
      let size = length-remove xs i within in
      elim (cases_lt b i) [
        | inl low ↦ omega (arith, ap f (get_or-remove_below xs i d a (omega arith) within), ap f (get_or-remove_below xs i d b low within), rising a b d lt (omega arith))
        | inr high ↦ elim (cases_lt a i) [
          | inl first ↦ omega (arith, ap f (get_or-remove_below xs i d a first within), ap f (get_or-remove_above xs i d b high within), rising a (b + 1) d (omega arith) (omega (arith, size)))
          | inr later ↦ omega (arith, ap f (get_or-remove_above xs i d a later within), ap f (get_or-remove_above xs i d b high within), rising (a + 1) (b + 1) d (omega arith) (omega (arith, size)))
        ]
      ]
