-- The first place above another, where places rise, is the least above it.
use Rattle.std.proofs.Common.{◌≡◌, ◌⊎◌, ◌↔◌, ℕ, zero, suc, ◌<◌, ◌≤◌, cond, List, [], ◌∷◌, length, find, Option, Some, None, Contains, get_or, refl, ap, sym, subst, ◌∙◌, arith, inl, inr}
use Rattle.std.specs.Prelude.{nat_lt}
use Rattle.std.specs.Option.{option_map}
use Rattle.std.proofs.lemmas.Bool.{lt-ltb, le-ltb, cases_lt}
use Rattle.std.proofs.lemmas.Option.{same_Some}
use Rattle.sender_receiver.specs.Stocks.{Stocked, IsLeastAbove, IsNoneAbove, IsRisingFrom, place_after}

head_or_rest : (y : Stocked) (ys : List Stocked) (x : Stocked) → Contains (y ∷ ys) x → (y ≡ x) ⊎ Contains ys x
head_or_rest y ys x c = go c.0 c.1 c.2
  where
    go : (k : ℕ) → k < length (y ∷ ys) → get_or (y ∷ ys) k x ≡ x → (y ≡ x) ⊎ Contains ys x
    go zero within e = inl e
    go (suc k) within e = inr (k, omega arith, e)

in_rest : (y : Stocked) (ys : List Stocked) (x : Stocked) → Contains ys x → Contains (y ∷ ys) x
in_rest y ys x c = (suc c.0, omega (arith, c.1), c.2)

all_rise : (low : ℕ) (held : List Stocked) (x : Stocked) → IsRisingFrom low held → Contains held x → low < x.lid
all_rise low [] x rising c = absurd (omega (arith, c.1))
all_rise low (y ∷ ys) x rising c = elim (head_or_rest y ys x c) [
  | inl same ↦ omega (arith, rising.0, ap (λ (s : Stocked). s.lid) same)
  | inr rest ↦ omega (arith, rising.0, all_rise y.lid ys x rising.1 rest)
]

here : (lid : ℕ) (y : Stocked) (ys : List Stocked) → lid < y.lid → place_after (y ∷ ys) lid ≡ Some y.lid
here lid y ys past = ap (λ b. option_map (λ (x : Stocked). x.lid) (cond b (Some y) (find (λ x. nat_lt lid x.lid) ys))) (lt-ltb lid y.lid past)

later : (lid : ℕ) (y : Stocked) (ys : List Stocked) → y.lid ≤ lid → place_after (y ∷ ys) lid ≡ place_after ys lid
later lid y ys before = ap (λ b. option_map (λ (x : Stocked). x.lid) (cond b (Some y) (find (λ x. nat_lt lid x.lid) ys))) (le-ltb lid y.lid before)

first_is_least : (lid : ℕ) (y : Stocked) (ys : List Stocked) → IsRisingFrom y.lid ys → lid < y.lid → IsLeastAbove (y ∷ ys) lid y.lid
first_is_least lid y ys rising past = record {
  past = past;
  there = (y, (0, omega arith, refl), refl);
  least = λ x c _. elim (head_or_rest y ys x c) [
    | inl same ↦ omega (arith, ap (λ (s : Stocked). s.lid) same)
    | inr rest ↦ omega (arith, all_rise y.lid ys x rising rest)
  ];
}

later_is_least : (lid next : ℕ) (y : Stocked) (ys : List Stocked) → y.lid ≤ lid → IsLeastAbove ys lid next → IsLeastAbove (y ∷ ys) lid next
later_is_least lid next y ys before h = record {
  past = h.past;
  there = (h.there.0, in_rest y ys h.there.0 h.there.1, h.there.2);
  least = λ x c past. elim (head_or_rest y ys x c) [
    | inl same ↦ omega (arith, ap (λ (s : Stocked). s.lid) same)
    | inr rest ↦ h.least x rest past
  ];
}

least_is : (held : List Stocked) (low lid next : ℕ) → IsRisingFrom low held → place_after held lid ≡ Some next → IsLeastAbove held lid next
least_is [] low lid next rising e = absurd (cc)
least_is (y ∷ ys) low lid next rising e = elim (cases_lt lid y.lid) [
  | inl past ↦
      let P : ℕ → Type 0 = λ n. IsLeastAbove (y ∷ ys) lid n in
      subst P (same_Some y.lid next (sym (here lid y ys past) ∙ e)) (first_is_least lid y ys rising.1 past)
  | inr before ↦ later_is_least lid next y ys before (least_is ys y.lid lid next rising.1 (sym (later lid y ys before) ∙ e))
]

none_is : (held : List Stocked) (lid : ℕ) → place_after held lid ≡ None → (x : Stocked) → Contains held x → x.lid ≤ lid
none_is [] lid e x c = absurd (omega (arith, c.1))
none_is (y ∷ ys) lid e x c = elim (cases_lt lid y.lid) [
  | inl past ↦ absurd (let f : Some y.lid ≡ None = sym (here lid y ys past) ∙ e in cc)
  | inr before ↦ elim (head_or_rest y ys x c) [
    | inl same ↦ omega (arith, ap (λ (s : Stocked). s.lid) same)
    | inr rest ↦ none_is ys lid (sym (later lid y ys before) ∙ e) x rest
  ]
]

only_least : (held : List Stocked) (lid m n : ℕ) → IsLeastAbove held lid m → IsLeastAbove held lid n → m ≡ n
only_least held lid m n a b = omega (
  arith,
  a.least b.there.0 b.there.1 (omega (arith, b.past, b.there.2)),
  b.least a.there.0 a.there.1 (omega (arith, a.past, a.there.2)),
  a.there.2,
  b.there.2,
)

pub next_iff : (held : List Stocked) (low lid next : ℕ) → IsRisingFrom low held → (place_after held lid ≡ Some next) ↔ IsLeastAbove held lid next
next_iff held low lid next rising = (least_is held low lid next rising, λ h. go (place_after held lid) refl h)
  where
    go : (o : Option ℕ) → place_after held lid ≡ o → IsLeastAbove held lid next → o ≡ Some next
    go None e h = absurd (omega (arith, none_is held lid e h.there.0 h.there.1, h.past, h.there.2))
    go (Some n) e h = ap (λ k. Some k) (only_least held lid n next (least_is held low lid n rising e) h)

pub none_iff : (held : List Stocked) (low lid : ℕ) → IsRisingFrom low held → (place_after held lid ≡ None) ↔ IsNoneAbove held lid
none_iff held low lid rising = (λ e. record { each = none_is held lid e }, λ h. go (place_after held lid) refl h)
  where
    go : (o : Option ℕ) → place_after held lid ≡ o → IsNoneAbove held lid → o ≡ None
    go None e h = refl
    go (Some n) e h = let found = least_is held low lid n rising e in absurd (omega (arith, h.each found.there.0 found.there.1, found.past, found.there.2))
