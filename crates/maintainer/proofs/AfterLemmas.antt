-- The first entry above a position.
use Rattle.std.proofs.Common.{◌≡◌, ℕ, zero, suc, ◌<◌, ◌≤◌, cond, List, [], ◌∷◌, length, get_or, Some, None, refl, ap, sym, ◌∙◌, inl, inr, arith}
use Rattle.std.specs.List.{All, AllWithin}
use Rattle.std.proofs.lemmas.Bool.{cases_eq, cases_lt, eq-eqb, ne_eqb, lt-ltb, le-ltb}
use Rattle.std.proofs.lemmas.List.Elements.{All-head, All-tail}
use Rattle.maintainer.specs.declared.slot.Slot.{Slot}
use Rattle.maintainer.specs.Maintainers.{AreRising, IsNextFilled, entry_after, value_at}

module _ {T : Type 0} where
  after_here : (p : ℕ) (x : Slot T) (xs : List (Slot T)) → p < x.lid → entry_after p (x ∷ xs) ≡ Some x
  after_here p x xs past = ap (λ b. cond b (Some x) (entry_after p xs)) (lt-ltb p x.lid past)

  after_later : (p : ℕ) (x : Slot T) (xs : List (Slot T)) → x.lid ≤ p → entry_after p (x ∷ xs) ≡ entry_after p xs
  after_later p x xs low = ap (λ b. cond b (Some x) (entry_after p xs)) (le-ltb p x.lid low)

  -- where those at or below p are a front, the slot behind them is the first above it
  pub after_front : (p i : ℕ) (e : Slot T) (es : List (Slot T)) → i < length es → AllWithin (λ (x : Slot T). x.lid ≤ p) es 0 i → AllWithin (λ (x : Slot T). p < x.lid) es i (length es) → e ≡ get_or es i e → entry_after p es ≡ Some e
  after_front p i e [] within low high is = absurd (omega arith)
  after_front p zero e (x ∷ xs) within low high is = after_here p x xs (high 0 x (omega arith) (omega arith)) ∙ ap (λ y. Some y) (sym is)
  after_front p (suc i) e (x ∷ xs) within low high is =
      after_later p x xs (low 0 x (omega arith) (omega arith))
      ∙ after_front p i e xs (omega arith) (λ k d from lt. low (suc k) d (omega arith) (omega arith)) (λ k d from lt. high (suc k) d (omega arith) (omega arith)) is

  pub after_none : (p i : ℕ) (es : List (Slot T)) → length es ≤ i → AllWithin (λ (x : Slot T). x.lid ≤ p) es 0 i → entry_after p es ≡ None
  after_none p i [] past low = refl
  after_none p zero (x ∷ xs) past low = absurd (omega arith)
  after_none p (suc i) (x ∷ xs) past low =
      after_later p x xs (low 0 x (omega arith) (omega arith)) ∙ after_none p i xs (omega arith) (λ k d from lt. low (suc k) d (omega arith) (omega arith))

  value_here : (q : ℕ) (x : Slot T) (xs : List (Slot T)) → x.lid ≡ q → value_at q (x ∷ xs) ≡ Some x.value
  value_here q x xs same = ap (λ b. cond b (Some x.value) (value_at q xs)) (eq-eqb x.lid q same)

  value_later : (q : ℕ) (x : Slot T) (xs : List (Slot T)) → (x.lid ≡ q → ⊥) → value_at q (x ∷ xs) ≡ value_at q xs
  value_later q x xs other = ap (λ b. cond b (Some x.value) (value_at q xs)) (ne_eqb x.lid q other)

  -- a value among slots that are all above low stands above low
  valued_above : (low q : ℕ) (es : List (Slot T)) (value : T) → All (λ (y : Slot T). low < y.lid) es → value_at q es ≡ Some value → low < q
  valued_above low q [] value high is = absurd (cc)
  valued_above low q (x ∷ xs) value high is = elim (cases_eq x.lid q) [
    | inl same ↦ omega (arith, same, All-head (λ (y : Slot T). low < y.lid) x xs high)
    | inr other ↦ valued_above low q xs value (All-tail (λ (y : Slot T). low < y.lid) x xs high) (sym (value_later q x xs other) ∙ is)
  ]

  rest_rises : (x : Slot T) (xs : List (Slot T)) → AreRising (x ∷ xs) → AreRising xs
  rest_rises x xs rising = record { below = λ i j d before within. rising.below (suc i) (suc j) d (omega arith) (omega arith) }

  rest_above : (x : Slot T) (xs : List (Slot T)) → AreRising (x ∷ xs) → All (λ (y : Slot T). x.lid < y.lid) xs
  rest_above x xs rising = λ k d within. rising.below 0 (suc k) d (omega arith) (omega arith)

  -- the position of the first entry above p is the least above p with a value
  pub next_is_least : (p : ℕ) (es : List (Slot T)) (e : Slot T) → AreRising es → Some e ≡ entry_after p es → IsNextFilled p es e.lid
  next_is_least p [] e rising is = absurd (cc)
  next_is_least p (x ∷ xs) e rising is = elim (cases_lt p x.lid) [
    | inl past ↦
        let here : e ≡ x = let found : Some e ≡ Some x = is ∙ after_here p x xs past in cc in
        let lid : e.lid ≡ x.lid = ap (λ (y : Slot T). y.lid) here in
        record {
          past = omega (arith, lid, past);
          there = (x.value, value_here e.lid x xs (sym lid));
          least = λ q value above stands. elim (cases_eq x.lid q) [
            | inl same ↦ omega (arith, same, lid)
            | inr other ↦ omega (arith, lid, valued_above x.lid q xs value (rest_above x xs rising) (sym (value_later q x xs other) ∙ stands))
          ];
        }
    | inr low ↦
        let rest : IsNextFilled p xs e.lid = next_is_least p xs e (rest_rises x xs rising) (is ∙ after_later p x xs low) in
        record {
          past = rest.past;
          there = (rest.there.0, value_later e.lid x xs (λ same. omega (arith, same, low, rest.past)) ∙ rest.there.1);
          least = λ q value above stands. rest.least q value above (sym (value_later q x xs (λ same. omega (arith, same, low, above))) ∙ stands);
        }
  ]

  -- where no entry is above p, no value stands above p
  pub none_after : (p : ℕ) (es : List (Slot T)) → None ≡ entry_after p es → (q : ℕ) → p < q → value_at q es ≡ None
  none_after p [] is q above = refl
  none_after p (x ∷ xs) is q above = elim (cases_lt p x.lid) [
    | inl past ↦ absurd (let found : None ≡ Some x = is ∙ after_here p x xs past in cc)
    | inr low ↦ value_later q x xs (λ same. omega (arith, same, low, above)) ∙ none_after p xs (is ∙ after_later p x xs low) q above
  ]
