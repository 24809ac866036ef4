-- Records by host and number, and the same records under their names.
use Rattle.std.proofs.Common.{◌≡◌, ℕ, zero, suc, ◌+◌, ◌<◌, Bool, true, false, cond, not, ◌&&◌, ◌||◌, List, [], ◌∷◌, ◌++◌, length, map, filter, take, drop, get_or, refl, ap, ap₂, sym, ◌∙◌, subst, inl, inr, arith, add-one, Option, Some, slice_get, append-nil}
use Rattle.std.specs.List.{All, AllPairs, AllByRecursion, list_any}
use Rattle.std.specs.Option.{is_some}
use Rattle.std.specs.Map.{keys_of, values_of, lookup, remove_entry}
use Rattle.std.specs.BTreeMap.{insert_entry, is_at}
use Rattle.std.specs.Ordering.{nat_cmp, ordering_then, match_ordering, is_le}
use Rattle.std.specs.declared.cmp.Ordering.{Ordering}
use Rattle.std.specs.declared.cmp.Ordering.TheVariants.{Less, Equal, Greater}
use Rattle.std.specs.Cmp.{nat_cmp_is}
use Rattle.std.specs.List.Sorted.{IsStrictlySortedBy}
use Rattle.std.proofs.lemmas.Bool.{cases_lt, cases_Bool, or_parts, not_from_true, not_from_false, not-true, true≢false, false_from_ne_true}
use Rattle.std.proofs.lemmas.List.{drop-drop}
use Rattle.std.proofs.lemmas.List.Elements.{All-nil, All-cons, All-head, All-tail, All-contains, All-drop, filter-append}
use Rattle.std.proofs.lemmas.List.Kept.{AllPairs-cons}
use Rattle.std.proofs.lemmas.Map.Keys.{sorted_head, sorted_tail}
use Rattle.std.proofs.lemmas.Option.{same_Some}
use Rattle.causal_deps.specs.declared.record.Record.{Record}
use Rattle.causal_deps.proofs.Lists.{Contains-filter, Contains-slice_get}
use Rattle.toid_filter.specs.Filters.{has_name, stands_before, before_name, from_name, named}
use Rattle.toid_filter.proofs.Tests.{name_parts, name_from, before_parts, before_from_host, before_from_toid, not_before, before_trans, all_from_contains, pairs_parts}

-- the order of names
abbrev pub name_order : ℕ × ℕ → ℕ × ℕ → Ordering
name_order x y = ordering_then (nat_cmp x.0 y.0) (nat_cmp x.1 y.1)

abbrev pub Rising : List Record → Type 0
Rising held = AllPairs (λ q r. stands_before r.host r.toid q ≡ true) held

is_less : (a b : ℕ) → a < b → nat_cmp a b ≡ Less
is_less a b low = sym (nat_cmp_is a b Less low)

is_equal : (a b : ℕ) → a ≡ b → nat_cmp a b ≡ Equal
is_equal a b same = sym (nat_cmp_is a b Equal same)

is_greater : (a b : ℕ) → b < a → nat_cmp a b ≡ Greater
is_greater a b high = sym (nat_cmp_is a b Greater high)

by_host : (x y : ℕ × ℕ) (o : Ordering) → nat_cmp x.0 y.0 ≡ o → name_order x y ≡ ordering_then o (nat_cmp x.1 y.1)
by_host x y o is = ap (λ p. ordering_then p (nat_cmp x.1 y.1)) is

by_both : (x y : ℕ × ℕ) (o : Ordering) → x.0 ≡ y.0 → nat_cmp x.1 y.1 ≡ o → name_order x y ≡ o
by_both x y o same is = by_host x y Equal (is_equal x.0 y.0 same) ∙ is

-- where a record stands by a name
pub order_after : (h t : ℕ) (q : Record) → stands_before h t q ≡ true → name_order (h, t) (q.host, q.toid) ≡ Greater
order_after h t q before = elim (before_parts h t q before) [
  | inl low ↦ by_host (h, t) (q.host, q.toid) Greater (is_greater h q.host low)
  | inr same ↦ by_both (h, t) (q.host, q.toid) Greater (sym same.0) (is_greater t q.toid same.1)
]

pub order_at : (h t : ℕ) (q : Record) → has_name h t q ≡ true → name_order (h, t) (q.host, q.toid) ≡ Equal
order_at h t q named_so = let is = name_parts h t q named_so in by_both (h, t) (q.host, q.toid) Equal (sym is.0) (is_equal t q.toid (sym is.1))

pub order_before : (h t : ℕ) (q : Record) → stands_before h t q ≡ false → has_name h t q ≡ false → name_order (h, t) (q.host, q.toid) ≡ Less
order_before h t q after other = elim (not_before h t q after) [
  | inl high ↦ by_host (h, t) (q.host, q.toid) Less (is_less h q.host high)
  | inr same ↦ elim (cases_lt t q.toid) [
    | inl low ↦ by_both (h, t) (q.host, q.toid) Less (sym same.0) (is_less t q.toid low)
    | inr high ↦ absurd (true≢false (sym (name_from h t q same.0 (omega (arith, same.1))) ∙ other))
  ]
]

-- each fact of the order that holds in the three cases
by_order : (P : Ordering → Bool → Bool → Type 0) (h t : ℕ) (q : Record) → P Greater true false → P Equal false true → P Less false false → P (name_order (h, t) (q.host, q.toid)) (stands_before h t q) (has_name h t q)
by_order P h t q greater equal less = elim (cases_Bool (stands_before h t q)) [
  | inl before ↦ let other : has_name h t q ≡ false = false_from_ne_true (has_name h t q) (λ at. absurd (order_clash (sym (order_after h t q before) ∙ order_at h t q at))) in
      give Greater true false (order_after h t q before) before other greater
  | inr after ↦ elim (cases_Bool (has_name h t q)) [
    | inl at ↦ give Equal false true (order_at h t q at) after at equal
    | inr other ↦ give Less false false (order_before h t q after other) after other less
  ]
]
  where
    order_clash : Greater ≡ Equal → ⊥
    order_clash is = absurd (cc)

    give : (o : Ordering) (b a : Bool) → name_order (h, t) (q.host, q.toid) ≡ o → stands_before h t q ≡ b → has_name h t q ≡ a → P o b a → P (name_order (h, t) (q.host, q.toid)) (stands_before h t q) (has_name h t q)
    give o b a is_o is_b is_a has = subst (λ x. P x (stands_before h t q) (has_name h t q)) (sym is_o) (subst (λ x. P o x (has_name h t q)) (sym is_b) (subst (P o b) (sym is_a) has))

at_is : (h t : ℕ) (q : Record) → is_at (name_order (h, t)) (q.host, q.toid) ≡ has_name h t q
at_is h t q = by_order (λ o b a. is_at (λ (k : ℕ × ℕ). o) (q.host, q.toid) ≡ a) h t q refl refl refl

le_is : (h t : ℕ) (q : Record) → (is_le (name_order (h, t) (q.host, q.toid)) && true) ≡ not (stands_before h t q)
le_is h t q = by_order (λ o b a. (is_le o && true) ≡ not b) h t q refl refl refl

less_before : (q s : Record) → name_order (q.host, q.toid) (s.host, s.toid) ≡ Less → stands_before s.host s.toid q ≡ true
less_before q s = by_order (λ o b a. stands_before q.host q.toid s ≡ b → has_name q.host q.toid s ≡ a → o ≡ Less → stands_before s.host s.toid q ≡ true) q.host q.toid s
    (λ _ _ is. absurd (greater_clash is)) (λ _ _ is. absurd (equal_clash is)) (λ after other _. turned after other) refl refl
  where
    greater_clash : Greater ≡ Less → ⊥
    greater_clash is = absurd (cc)

    equal_clash : Equal ≡ Less → ⊥
    equal_clash is = absurd (cc)

    turned : stands_before q.host q.toid s ≡ false → has_name q.host q.toid s ≡ false → stands_before s.host s.toid q ≡ true
    turned after other = elim (not_before q.host q.toid s after) [
      | inl high ↦ before_from_host s.host s.toid q high
      | inr same ↦ elim (cases_lt q.toid s.toid) [
        | inl low ↦ before_from_toid s.host s.toid q (sym same.0) low
        | inr high ↦ absurd (true≢false (sym (name_from q.host q.toid s same.0 (omega (arith, same.1))) ∙ other))
      ]
    ]

-- keys in order are records in order
pub rising_from_keys : (rs : List Record) → IsStrictlySortedBy name_order (keys_of (map named rs)) → Rising rs
rising_from_keys [] sorted = λ i j d before inside. absurd (omega arith)
rising_from_keys (q ∷ rs) sorted = AllPairs-cons (λ (x y : Record). stands_before y.host y.toid x ≡ true) q rs
    (all_after rs (sorted_head name_order (q.host, q.toid) (keys_of (map named rs)) sorted))
    (rising_from_keys rs (sorted_tail name_order (q.host, q.toid) (keys_of (map named rs)) sorted))
  where
    all_after : (xs : List Record) → AllByRecursion (λ y. name_order (q.host, q.toid) y ≡ Less) (keys_of (map named xs)) → All (λ (s : Record). stands_before s.host s.toid q ≡ true) xs
    all_after [] all = All-nil (λ (s : Record). stands_before s.host s.toid q ≡ true)
    all_after (s ∷ xs) all = All-cons (λ (x : Record). stands_before x.host x.toid q ≡ true) s xs (less_before q s all.0) (all_after xs all.1)

pub filter_all : (p : Record → Bool) (xs : List Record) → All (λ x. p x ≡ true) xs → filter p xs ≡ xs
filter_all p [] all = refl
filter_all p (x ∷ xs) all = ap (λ b. cond b (x ∷ filter p xs) (filter p xs)) (All-head (λ y. p y ≡ true) x xs all) ∙ ap (λ ys. x ∷ ys) (filter_all p xs (All-tail (λ y. p y ≡ true) x xs all))

pub filter_none : (p : Record → Bool) (xs : List Record) → All (λ x. p x ≡ false) xs → filter p xs ≡ []
filter_none p [] all = refl
filter_none p (x ∷ xs) all = ap (λ b. cond b (x ∷ filter p xs) (filter p xs)) (All-head (λ y. p y ≡ false) x xs all) ∙ filter_none p xs (All-tail (λ y. p y ≡ false) x xs all)

-- after one that does not stand before a name none does
module _ (h t : ℕ) (q : Record) (rs : List Record) (rising : Rising (q ∷ rs)) (after : stands_before h t q ≡ false) where
  all_later : All (λ s. stands_before h t s ≡ false) rs
  all_later = all_from_contains (λ s. stands_before h t s ≡ false) rs (λ s has. false_from_ne_true (stands_before h t s) (λ before.
      true≢false (sym (before_trans q s h t (All-contains (λ (x : Record). stands_before x.host x.toid q ≡ true) rs s (pairs_parts (λ (x y : Record). stands_before y.host y.toid x ≡ true) q rs rising).0 has) before) ∙ after)))

  pub none_before : before_name h t rs ≡ []
  none_before = filter_none (stands_before h t) rs all_later

  pub all_from : from_name h t rs ≡ rs
  all_from = filter_all (λ s. not (stands_before h t s)) rs (λ k d within. not_from_false (stands_before h t (get_or rs k d)) (all_later k d within))

rising_rest : (q : Record) (rs : List Record) → Rising (q ∷ rs) → Rising rs
rising_rest q rs rising = (pairs_parts (λ (x y : Record). stands_before y.host y.toid x ≡ true) q rs rising).1

-- a list in order is its two parts
pub two_parts : (h t : ℕ) (rs : List Record) → Rising rs → rs ≡ before_name h t rs ++ from_name h t rs
two_parts h t [] rising = refl
two_parts h t (q ∷ rs) rising = elim (cases_Bool (stands_before h t q)) [
  | inl before ↦ ap (λ ys. q ∷ ys) (two_parts h t rs (rising_rest q rs rising))
      ∙ sym (ap (λ b. cond b (q ∷ before_name h t rs) (before_name h t rs) ++ cond (not b) (q ∷ from_name h t rs) (from_name h t rs)) before)
  | inr after ↦ sym (ap (λ b. cond b (q ∷ before_name h t rs) (before_name h t rs) ++ cond (not b) (q ∷ from_name h t rs) (from_name h t rs)) after
      ∙ ap₂ (λ e l. e ++ q ∷ l) (none_before h t q rs rising after) (all_from h t q rs rising after))
]

-- a look-up by name
pub has_is : (h t : ℕ) (rs : List Record) → is_some (lookup (is_at (name_order (h, t))) (map named rs)) ≡ list_any (has_name h t) rs
has_is h t [] = refl
has_is h t (q ∷ rs) = ap (λ b. is_some (cond b (Some q) (lookup (is_at (name_order (h, t))) (map named rs)))) (at_is h t q)
    ∙ elim (has_name h t q) as (λ b. is_some (cond b (Some q) (lookup (is_at (name_order (h, t))) (map named rs))) ≡ (b || list_any (has_name h t) rs)) [
      | true ↦ refl
      | false ↦ has_is h t rs
    ]

-- the entries from a name on
pub range_is : (h t : ℕ) (rs : List Record) → filter (λ (e : (ℕ × ℕ) × Record). is_le (name_order (h, t) e.0) && true) (map named rs) ≡ map named (from_name h t rs)
range_is h t [] = refl
range_is h t (q ∷ rs) =
    let rest = filter (λ (e : (ℕ × ℕ) × Record). is_le (name_order (h, t) e.0) && true) (map named rs) in
    ap (λ b. cond b (named q ∷ rest) rest) (le_is h t q)
    ∙ elim (not (stands_before h t q)) as (λ b. cond b (named q ∷ rest) rest ≡ map named (cond b (q ∷ from_name h t rs) (from_name h t rs))) [
      | true ↦ ap (λ es. named q ∷ es) (range_is h t rs)
      | false ↦ range_is h t rs
    ]

pub values_named : (rs : List Record) → values_of (map named rs) ≡ rs
values_named [] = refl
values_named (q ∷ rs) = ap (λ ys. q ∷ ys) (values_named rs)

-- a new record takes its place
pub insert_is : (r : Record) (rs : List Record) → Rising rs → list_any (has_name r.host r.toid) rs ≡ false
    → insert_entry name_order (map named rs) (r.host, r.toid) r ≡ map named (before_name r.host r.toid rs ++ r ∷ from_name r.host r.toid rs)
insert_is r [] rising new = refl
insert_is r (q ∷ rs) rising new =
    let news = or_parts (has_name r.host r.toid q) (list_any (has_name r.host r.toid) rs) new in
    let first : List ((ℕ × ℕ) × Record) = named r ∷ named q ∷ map named rs in
    let there : List ((ℕ × ℕ) × Record) = ((q.host, q.toid), r) ∷ map named rs in
    let later : List ((ℕ × ℕ) × Record) = named q ∷ insert_entry name_order (map named rs) (r.host, r.toid) r in
    let parts : Bool → List Record = λ b. cond b (q ∷ before_name r.host r.toid rs) (before_name r.host r.toid rs) ++ r ∷ cond (not b) (q ∷ from_name r.host r.toid rs) (from_name r.host r.toid rs) in
    elim (cases_Bool (stands_before r.host r.toid q)) [
      | inl before ↦ ap (λ o. match_ordering o first there later) (order_after r.host r.toid q before)
          ∙ ap (λ es. named q ∷ es) (insert_is r rs (rising_rest q rs rising) news.1)
          ∙ sym (ap (λ b. map named (parts b)) before)
      | inr after ↦ ap (λ o. match_ordering o first there later) (order_before r.host r.toid q after news.0)
          ∙ sym (ap (λ b. map named (parts b)) after
          ∙ ap₂ (λ e l. map named (e ++ r ∷ q ∷ l)) (none_before r.host r.toid q rs rising after) (all_from r.host r.toid q rs rising after))
    ]

-- The first record from a name on is found by its own name, and without it the others stay.
module _ (h t : ℕ) (q : Record) where
  abbrev at_it : ℕ × ℕ → Bool
  at_it = is_at (name_order (q.host, q.toid))

  -- one that stands before the name is another one
  apart : (s : Record) (rs : List Record) → stands_before h t s ≡ true → slice_get (from_name h t rs) 0 ≡ Some q → at_it (s.host, s.toid) ≡ false
  apart s rs before is = at_is q.host q.toid s ∙ false_from_ne_true (has_name q.host q.toid s) (λ same.
      let names = name_parts q.host q.toid s same in
      let later = not-true (stands_before h t q) (Contains-filter (λ x. not (stands_before h t x)) rs q (Contains-slice_get (from_name h t rs) 0 q is)).1 in
      elim (before_parts h t s before) [
        | inl low ↦ true≢false (sym (before_from_host h t q (omega (arith, low, names.0))) ∙ later)
        | inr both ↦ true≢false (sym (before_from_toid h t q (sym names.0 ∙ both.0) (omega (arith, both.1, names.1))) ∙ later)
      ])

  here : (s : Record) → s ≡ q → at_it (s.host, s.toid) ≡ true
  here s same = at_is q.host q.toid s ∙ name_from q.host q.toid s (ap (λ (x : Record). x.host) same) (ap (λ (x : Record). x.toid) same)

  pub found_is : (rs : List Record) → Rising rs → slice_get (from_name h t rs) 0 ≡ Some q → lookup at_it (map named rs) ≡ Some q
  found_is [] rising is = absurd (cc)
  found_is (s ∷ rs) rising is = elim (cases_Bool (stands_before h t s)) [
    | inl before ↦
        let rest : slice_get (from_name h t rs) 0 ≡ Some q = sym (ap (λ b. slice_get (cond (not b) (s ∷ from_name h t rs) (from_name h t rs)) 0) before) ∙ is in
        ap (λ b. cond b (Some s) (lookup at_it (map named rs))) (apart s rs before rest) ∙ found_is rs (rising_rest s rs rising) rest
    | inr after ↦
        let same : s ≡ q = same_Some s q (sym (ap (λ b. slice_get (cond (not b) (s ∷ from_name h t rs) (from_name h t rs)) 0) after) ∙ is) in
        ap (λ b. cond b (Some s) (lookup at_it (map named rs))) (here s same) ∙ ap Some same
  ]

  pub removed_is : (rs : List Record) → Rising rs → slice_get (from_name h t rs) 0 ≡ Some q → remove_entry at_it (map named rs) ≡ map named (before_name h t rs ++ drop 1 (from_name h t rs))
  removed_is [] rising is = absurd (cc)
  removed_is (s ∷ rs) rising is =
      let parts : Bool → List Record = λ b. cond b (s ∷ before_name h t rs) (before_name h t rs) ++ drop 1 (cond (not b) (s ∷ from_name h t rs) (from_name h t rs)) in
      elim (cases_Bool (stands_before h t s)) [
        | inl before ↦
            let rest : slice_get (from_name h t rs) 0 ≡ Some q = sym (ap (λ b. slice_get (cond (not b) (s ∷ from_name h t rs) (from_name h t rs)) 0) before) ∙ is in
            ap (λ b. cond b (map named rs) (named s ∷ remove_entry at_it (map named rs))) (apart s rs before rest)
            ∙ ap (λ es. named s ∷ es) (removed_is rs (rising_rest s rs rising) rest) ∙ sym (ap (λ b. map named (parts b)) before)
        | inr after ↦
            let same : s ≡ q = same_Some s q (sym (ap (λ b. slice_get (cond (not b) (s ∷ from_name h t rs) (from_name h t rs)) 0) after) ∙ is) in
            ap (λ b. cond b (map named rs) (named s ∷ remove_entry at_it (map named rs))) (here s same)
            ∙ sym (ap (λ b. map named (parts b)) after ∙ ap₂ (λ e l. map named (e ++ l)) (none_before h t s rs rising after) (all_from h t s rs rising after))
      ]

-- the first of a list of entries
pub first_named : (xs : List Record) (e : (ℕ × ℕ) × Record) (es : List ((ℕ × ℕ) × Record)) → map named xs ≡ e ∷ es → (slice_get xs 0 ≡ Some e.1) × (e ≡ named e.1) × (es ≡ map named (drop 1 xs))
first_named [] e es is = absurd (cc)
first_named (x ∷ xs) e es is =
    let same : named x ≡ e = ap (λ ys. get_or ys 0 e) is in
    (ap (λ (p : (ℕ × ℕ) × Record). Some p.1) same, sym same ∙ ap (λ (p : (ℕ × ℕ) × Record). named p.1) same, sym (ap (drop 1) is))

pub none_named : (xs : List Record) → map named xs ≡ [] → xs ≡ []
none_named [] is = refl
none_named (x ∷ xs) is = absurd (cc)

-- what stands first after so many
pub first_after : (i : ℕ) (xs : List Record) (r : Record) → slice_get (drop i xs) 0 ≡ Some r → (i < length xs) × (get_or xs i r ≡ r) × (take (i + 1) xs ≡ take i xs ++ r ∷ [])
first_after zero [] r is = absurd (cc)
first_after zero (x ∷ xs) r is = let same = same_Some x r is in (omega arith, same, ap (λ y. y ∷ []) same)
first_after (suc i) [] r is = absurd (cc)
first_after (suc i) (x ∷ xs) r is =
    let rest = first_after i xs r is in
    (omega (arith, rest.0), rest.1, ap (λ n. take n (x ∷ xs)) (add-one (suc i)) ∙ ap (λ n. x ∷ take n xs) (sym (add-one i)) ∙ ap (λ ys. x ∷ ys) rest.2)

-- The records from a name on, after the first so many are taken out.
module _ (h t : ℕ) (rs : List Record) (i : ℕ) where
  abbrev left_over : List Record
  left_over = before_name h t rs ++ drop i (from_name h t rs)

  all_early : All (λ q. stands_before h t q ≡ true) (before_name h t rs)
  all_early = all_from_contains (λ q. stands_before h t q ≡ true) (before_name h t rs) (λ q has. (Contains-filter (stands_before h t) rs q has).1)

  all_late : All (λ q. stands_before h t q ≡ false) (drop i (from_name h t rs))
  all_late = All-drop (λ q. stands_before h t q ≡ false) i (from_name h t rs)
      (all_from_contains (λ q. stands_before h t q ≡ false) (from_name h t rs) (λ q has. not-true (stands_before h t q) (Contains-filter (λ x. not (stands_before h t x)) rs q has).1))

  pub still_before : before_name h t left_over ≡ before_name h t rs
  still_before = filter-append (stands_before h t) (before_name h t rs) (drop i (from_name h t rs))
      ∙ ap₂ (λ xs ys. xs ++ ys) (filter_all (stands_before h t) (before_name h t rs) all_early) (filter_none (stands_before h t) (drop i (from_name h t rs)) all_late)
      ∙ append-nil (before_name h t rs)

  pub still_from : from_name h t left_over ≡ drop i (from_name h t rs)
  still_from = filter-append (λ q. not (stands_before h t q)) (before_name h t rs) (drop i (from_name h t rs))
      ∙ ap₂ (λ xs ys. xs ++ ys)
      (filter_none (λ q. not (stands_before h t q)) (before_name h t rs) (λ k d within. not_from_true (stands_before h t (get_or (before_name h t rs) k d)) (all_early k d within)))
      (filter_all (λ q. not (stands_before h t q)) (drop i (from_name h t rs)) (λ k d within. not_from_false (stands_before h t (get_or (drop i (from_name h t rs)) k d)) (all_late k d within)))

  pub next_left : before_name h t left_over ++ drop 1 (from_name h t left_over) ≡ before_name h t rs ++ drop (i + 1) (from_name h t rs)
  next_left = ap₂ (λ xs ys. xs ++ ys) still_before (ap (drop 1) still_from ∙ drop-drop 1 i (from_name h t rs))

-- A map whose records stand under their names, and its calls.
pub named_again : (es : List ((ℕ × ℕ) × Record)) (xs : List Record) → es ≡ map named xs → es ≡ map named (values_of es)
named_again es xs is = is ∙ ap (map named) (sym (values_named xs)) ∙ ap (λ ys. map named (values_of ys)) (sym is)

pub values_are : (es : List ((ℕ × ℕ) × Record)) (xs : List Record) → es ≡ map named xs → values_of es ≡ xs
values_are es xs is = ap values_of is ∙ values_named xs

module _ (old : List ((ℕ × ℕ) × Record)) (rs : List Record) (own : old ≡ map named (values_of old)) (view : values_of old ≡ rs) where
  shown : old ≡ map named rs
  shown = own ∙ ap (map named) view

  pub ordered_in : IsStrictlySortedBy name_order (keys_of old) → Rising rs
  ordered_in sorted = rising_from_keys rs (subst (λ es. IsStrictlySortedBy name_order (keys_of es)) shown sorted)

  pub contains_in : (h t : ℕ) (result : Bool) → result ≡ is_some (lookup (is_at (name_order (h, t))) old) → result ≡ list_any (has_name h t) rs
  contains_in h t result says = says ∙ ap (λ es. is_some (lookup (is_at (name_order (h, t))) es)) shown ∙ has_is h t rs

  pub range_in : (h t : ℕ) (result : List ((ℕ × ℕ) × Record)) → result ≡ filter (λ (e : (ℕ × ℕ) × Record). is_le (name_order (h, t) e.0) && true) old → result ≡ map named (from_name h t rs)
  range_in h t result says = says ∙ ap (filter (λ (e : (ℕ × ℕ) × Record). is_le (name_order (h, t) e.0) && true)) shown ∙ range_is h t rs

  pub inserted_in : (r : Record) (new : List ((ℕ × ℕ) × Record)) → IsStrictlySortedBy name_order (keys_of old) → list_any (has_name r.host r.toid) rs ≡ false → new ≡ insert_entry name_order old (r.host, r.toid) r
      → new ≡ map named (before_name r.host r.toid rs ++ r ∷ from_name r.host r.toid rs)
  inserted_in r new sorted absent says = says ∙ ap (λ es. insert_entry name_order es (r.host, r.toid) r) shown ∙ insert_is r rs (ordered_in sorted) absent

  pub removed_in : (h t : ℕ) (e : (ℕ × ℕ) × Record) (others new : List ((ℕ × ℕ) × Record)) (result : Option Record) → Rising rs → map named (from_name h t rs) ≡ e ∷ others
      → result ≡ lookup (is_at (name_order e.0)) old → new ≡ remove_entry (is_at (name_order e.0)) old
      → (result ≡ slice_get (from_name h t rs) 0) × (new ≡ map named (before_name h t rs ++ drop 1 (from_name h t rs)))
  removed_in h t e others new result rising first found removed =
      let is = first_named (from_name h t rs) e others first in
      let name : e.0 ≡ (e.1.host, e.1.toid) = ap (λ (p : (ℕ × ℕ) × Record). p.0) is.1 in (
        found ∙ ap₂ (λ (k : ℕ × ℕ) (es : List ((ℕ × ℕ) × Record)). lookup (is_at (name_order k)) es) name shown ∙ found_is h t e.1 rs rising is.0 ∙ sym is.0,
        removed ∙ ap₂ (λ (k : ℕ × ℕ) (es : List ((ℕ × ℕ) × Record)). remove_entry (is_at (name_order k)) es) name shown ∙ removed_is h t e.1 rs rising is.0,
      )
