-- What the tests on numbers and records say.
use Rattle.std.proofs.Common.{◌≡◌, ◌⊎◌, ℕ, zero, suc, ◌<◌, ◌≤◌, Bool, true, false, cond, not, leb, ltb, eqb, ◌&&◌, ◌||◌, List, [], ◌∷◌, ◌++◌, filter, get_or, refl, ap, sym, ◌∙◌, inl, inr, arith, Option, Some, None, Contains}
use Rattle.std.specs.List.{All, AllPairs, list_any}
use Rattle.std.proofs.lemmas.Bool.{cases_eq, cases_lt, cases_Bool, and_parts, and_from, and_left, and_cases, or_cases, or_left, or_right, eqb-true, eq-eqb, leb-true, leb-false, ltb-true, lt-ltb, not-true, not_from_false, true≢false, false_from_ne_true}
use Rattle.std.proofs.lemmas.List.Elements.{All-head, All-tail, All-append, Contains-get_or}
use Rattle.std.proofs.lemmas.List.Kept.{AllPairs-cons}
use Rattle.causal_deps.specs.declared.record.Record.{Record}
use Rattle.causal_deps.proofs.Lists.{Contains-cons, Contains-here, Contains-there}
use Rattle.toid_filter.specs.declared.filter.AcceptedMark.{AcceptedMark}
use Rattle.toid_filter.specs.Filters.{all_below, has_name, is_held_back, stands_before}

pub all_below_at : (test : ℕ → Bool) (t u : ℕ) → all_below test t ≡ true → u < t → test u ≡ true
all_below_at test zero u all low = absurd (omega arith)
all_below_at test (suc t) u all low =
    let both = and_parts (test t) (all_below test t) all in
    elim (cases_lt u t) [
      | inl lower ↦ all_below_at test t u both.1 lower
      | inr high ↦ let same : u ≡ t = omega arith in ap test same ∙ both.0
    ]

pub all_below_from : (test : ℕ → Bool) (t : ℕ) → ((u : ℕ) → u < t → test u ≡ true) → all_below test t ≡ true
all_below_from test zero each = refl
all_below_from test (suc t) each = and_from (test t) (all_below test t) (each t (omega arith)) (all_below_from test t (λ u low. each u (omega arith)))

-- a number of a filter that is met or done, as far as it is the filter's
pub settled_gives : (t : ℕ) (own known : Bool) → (eqb t 0 || (not own || known)) ≡ true → 1 ≤ t → own ≡ true → known ≡ true
settled_gives t own known is some owned = elim (or_cases (eqb t 0) (not own || known) is) [
  | inl none ↦ absurd (omega (arith, eqb-true t 0 none))
  | inr rest ↦ elim (or_cases (not own) known rest) [
    | inl foreign ↦ absurd (true≢false (sym owned ∙ not-true own foreign))
    | inr known_is ↦ known_is
  ]
]

pub settled_from : (t : ℕ) (own known : Bool) → (1 ≤ t → own ≡ true → known ≡ true) → (eqb t 0 || (not own || known)) ≡ true
settled_from t own known gives = elim (cases_lt t 1) [
  | inl none ↦ or_left (eqb t 0) (not own || known) (eq-eqb t 0 (omega arith))
  | inr some ↦ or_right (eqb t 0) (not own || known) (elim (cases_Bool own) [
    | inl owned ↦ or_right (not own) known (gives some owned)
    | inr foreign ↦ or_left (not own) known (not_from_false own foreign)
  ])
]

pub name_parts : (h t : ℕ) (r : Record) → has_name h t r ≡ true → (r.host ≡ h) × (r.toid ≡ t)
name_parts h t r is = let both = and_parts (eqb r.host h) (eqb r.toid t) is in (eqb-true r.host h both.0, eqb-true r.toid t both.1)

pub name_from : (h t : ℕ) (r : Record) → r.host ≡ h → r.toid ≡ t → has_name h t r ≡ true
name_from h t r host toid = and_from (eqb r.host h) (eqb r.toid t) (eq-eqb r.host h host) (eq-eqb r.toid t toid)

pub before_parts : (h t : ℕ) (r : Record) → stands_before h t r ≡ true → (r.host < h) ⊎ ((r.host ≡ h) × (r.toid < t))
before_parts h t r is = elim (or_cases (ltb r.host h) (eqb r.host h && ltb r.toid t) is) [
  | inl host ↦ inl (ltb-true r.host h host)
  | inr same ↦ let both = and_parts (eqb r.host h) (ltb r.toid t) same in inr (eqb-true r.host h both.0, ltb-true r.toid t both.1)
]

pub before_from_host : (h t : ℕ) (r : Record) → r.host < h → stands_before h t r ≡ true
before_from_host h t r host = or_left (ltb r.host h) (eqb r.host h && ltb r.toid t) (lt-ltb r.host h host)

pub before_from_toid : (h t : ℕ) (r : Record) → r.host ≡ h → r.toid < t → stands_before h t r ≡ true
before_from_toid h t r host toid = or_right (ltb r.host h) (eqb r.host h && ltb r.toid t) (and_from (eqb r.host h) (ltb r.toid t) (eq-eqb r.host h host) (lt-ltb r.toid t toid))

-- what does not stand before a name has it, or stands after it
pub not_before : (h t : ℕ) (r : Record) → stands_before h t r ≡ false → (h < r.host) ⊎ ((r.host ≡ h) × (t ≤ r.toid))
not_before h t r is = elim (cases_lt h r.host) [
  | inl later ↦ inl later
  | inr host ↦ elim (cases_eq r.host h) [
    | inr apart ↦ absurd (true≢false (sym (before_from_host h t r (omega arith)) ∙ is))
    | inl same ↦ elim (cases_lt r.toid t) [
      | inl low ↦ absurd (true≢false (sym (before_from_toid h t r same low) ∙ is))
      | inr high ↦ inr (same, high)
    ]
  ]
]

-- before a name that stands before another
pub before_trans : (q r : Record) (h t : ℕ) → stands_before r.host r.toid q ≡ true → stands_before h t r ≡ true → stands_before h t q ≡ true
before_trans q r h t first second = elim (before_parts r.host r.toid q first) [
  | inl low ↦ elim (before_parts h t r second) [
    | inl lower ↦ before_from_host h t q (omega arith)
    | inr same ↦ before_from_host h t q (omega (arith, same.0))
  ]
  | inr same ↦ elim (before_parts h t r second) [
    | inl lower ↦ before_from_host h t q (omega (arith, same.0))
    | inr also ↦ before_from_toid h t q (same.0 ∙ also.0) (omega (arith, same.1, also.1))
  ]
]

-- a mark that does not hold a number back does not hold a smaller one back
pub held_back_below : (mark : Option AcceptedMark) (h t u : ℕ) → is_held_back mark h t ≡ false → u ≤ t → is_held_back mark h u ≡ false
held_back_below None h t u is low = refl
held_back_below (Some mark) h t u is low = elim (and_cases (eqb mark.host h) (leb mark.from t) is) [
  | inl other ↦ and_left (eqb mark.host h) (leb mark.from u) other
  | inr under ↦ let above = leb-false mark.from t under in false_from_ne_true (eqb mark.host h && leb mark.from u) (λ bad. let reached = leb-true mark.from u (and_parts (eqb mark.host h) (leb mark.from u) bad).1 in absurd (omega arith))
]

pub any_gives : {X : Type 0} (p : X → Bool) (xs : List X) → list_any p xs ≡ true → (x : X) × Contains xs x × (p x ≡ true)
any_gives p [] is = absurd (cc)
any_gives p (x ∷ xs) is = elim (or_cases (p x) (list_any p xs) is) [
  | inl here ↦ (x, Contains-here x xs, here)
  | inr there ↦ let rest = any_gives p xs there in (rest.0, Contains-there x xs rest.0 rest.1, rest.2)
]

pub any_from : {X : Type 0} (p : X → Bool) (xs : List X) (x : X) → Contains xs x → p x ≡ true → list_any p xs ≡ true
any_from p [] x (k, within, at) is = absurd (omega arith)
any_from p (y ∷ xs) x has is = elim (Contains-cons y xs x has) [
  | inl here ↦ or_left (p y) (list_any p xs) (ap p here ∙ is)
  | inr there ↦ or_right (p y) (list_any p xs) (any_from p xs x there is)
]

-- what passes stays in
pub filter_keeps : {X : Type 0} (p : X → Bool) (xs : List X) (x : X) → Contains xs x → p x ≡ true → Contains (filter p xs) x
filter_keeps p [] x (k, within, at) is = absurd (omega arith)
filter_keeps p (y ∷ xs) x has is = elim (p y) as (λ b. p y ≡ b → Contains (cond b (y ∷ filter p xs) (filter p xs)) x) [
  | true ↦ λ py. elim (Contains-cons y xs x has) [
    | inl here ↦ (0, omega arith, here)
    | inr there ↦ Contains-there y (filter p xs) x (filter_keeps p xs x there is)
  ]
  | false ↦ λ py. elim (Contains-cons y xs x has) [
    | inl here ↦ absurd (true≢false (sym is ∙ sym (ap p here) ∙ py))
    | inr there ↦ filter_keeps p xs x there is
  ]
] refl

-- a fact of each element that is contained
pub all_from_contains : {X : Type 0} (P : X → Type 0) (xs : List X) → ((x : X) → Contains xs x → P x) → All P xs
all_from_contains P xs each = λ k d within. each (get_or xs k d) (Contains-get_or xs k d within)

pub pairs_parts : {X : Type 0} (R : X → X → Type 0) (x : X) (xs : List X) → AllPairs R (x ∷ xs) → All (R x) xs × AllPairs R xs
pairs_parts R x xs all = (λ k d within. all 0 (suc k) d (omega arith) (omega arith), λ i j d before within. all (suc i) (suc j) d (omega arith) (omega arith))

pub pairs_append : {X : Type 0} (R : X → X → Type 0) (xs ys : List X) → AllPairs R xs → AllPairs R ys → All (λ x. All (R x) ys) xs → AllPairs R (xs ++ ys)
pairs_append R [] ys one two across = two
pairs_append {X} R (x ∷ xs) ys one two across =
    let parts = pairs_parts R x xs one in
    AllPairs-cons R x (xs ++ ys) (All-append (R x) xs ys parts.0 (All-head (λ y. All (R y) ys) x xs across)) (pairs_append R xs ys parts.1 two (All-tail (λ y. All (R y) ys) x xs across))
