-- What a filter keeps, and that it is sound by that.
use Rattle.std.proofs.Common.{◌≡◌, ◌⊎◌, ℕ, zero, suc, ◌<◌, ◌≤◌, Bool, true, false, cond, not, leb, ◌&&◌, List, [], ◌∷◌, length, filter, get_or, refl, ap, ap₂, sym, ◌∙◌, subst, inl, inr, arith, replicate, Contains}
use Rattle.std.specs.List.{All, AllPairs, count_by}
use Rattle.std.proofs.lemmas.Bool.{cases_eq, cases_lt, cases_Bool, and_parts, and_from, or_cases, or_parts, or_left, or_right, leb-true, le-leb, eq-eqb, not-true, not_from_false, true≢false, cond-true, cond-false, false_from_ne_true}
use Rattle.std.proofs.lemmas.List.Elements.{All-cons, All-head, All-tail, All-weaker, All-contains, Contains-append_cases, Contains-append_left, Contains-append_right}
use Rattle.std.proofs.lemmas.List.{length-replicate}
use Rattle.std.proofs.lemmas.List.Sums.{sum_by-cons}
use Rattle.std.proofs.lemmas.List.Kept.{AllPairs-cons, AllPairs-filter}
use Rattle.causal_deps.specs.declared.record.Record.{Record}
use Rattle.causal_deps.specs.declared.record.Item.{Item}
use Rattle.causal_deps.proofs.Lists.{Contains-cons, Contains-here, Contains-there, Contains-filter}
use Rattle.toid_filter.specs.declared.champions.Share.{Share}
use Rattle.toid_filter.specs.declared.filter.Verdict.{Verdict}
use Rattle.toid_filter.specs.declared.filter.Verdict.TheVariants.{Passed, Held, Dropped}
use Rattle.toid_filter.specs.Champions.{champion}
use Rattle.toid_filter.specs.Filters.{FilterState, new_filter, owns, is_passed, has_name, is_held, is_known, times_passed, times_held, all_below, is_done, is_met, is_held_back, is_free, is_due, due, not_due, released, stands_before, with_held, IsTaken, FitsFilter, IsTidy, IsSteady, IsSound}
use Rattle.toid_filter.proofs.Tests.{all_below_at, all_below_from, settled_gives, settled_from, name_parts, name_from, before_parts, before_from_host, before_from_toid, not_before, before_trans, held_back_below, any_gives, any_from, filter_keeps, all_from_contains, pairs_parts, pairs_append}
use Rattle.toid_filter.proofs.Reached.{reached_length, reached_cases}

pub passed_parts : (f : FilterState) (h t : ℕ) → is_passed f h t ≡ true → (1 ≤ t) × (t ≤ get_or f.reached h 0) × (owns f h t ≡ true)
passed_parts f h t is =
    let some = and_parts (leb 1 t) (leb t (get_or f.reached h 0) && owns f h t) is in
    let rest = and_parts (leb t (get_or f.reached h 0)) (owns f h t) some.1 in
    (leb-true 1 t some.0, leb-true t (get_or f.reached h 0) rest.0, rest.1)

pub passed_from : (f : FilterState) (h t : ℕ) → 1 ≤ t → t ≤ get_or f.reached h 0 → owns f h t ≡ true → is_passed f h t ≡ true
passed_from f h t some low own = and_from (leb 1 t) (leb t (get_or f.reached h 0) && owns f h t) (le-leb 1 t some)
    (and_from (leb t (get_or f.reached h 0)) (owns f h t) (le-leb t (get_or f.reached h 0) low) own)

pub held_parts : (f : FilterState) (h t : ℕ) → is_held f h t ≡ true → (r : Record) × Contains f.held r × (r.host ≡ h) × (r.toid ≡ t)
held_parts f h t is = let found = any_gives (has_name h t) f.held is in let named = name_parts h t found.0 found.2 in (found.0, found.1, named.0, named.1)

pub held_from : (f : FilterState) (h t : ℕ) (r : Record) → Contains f.held r → r.host ≡ h → r.toid ≡ t → is_held f h t ≡ true
held_from f h t r has host toid = any_from (has_name h t) f.held r has (name_from h t r host toid)

pub due_parts : (f : FilterState) (r : Record) → is_due f r ≡ true → ((u : ℕ) → u < r.toid → is_met f r.host u ≡ true) × (is_held_back f.accepted r.host r.toid ≡ false)
due_parts f r is =
    let both = and_parts (all_below (is_met f r.host) r.toid) (not (is_held_back f.accepted r.host r.toid)) is in
    (λ u low. all_below_at (is_met f r.host) r.toid u both.0 low, not-true (is_held_back f.accepted r.host r.toid) both.1)

pub due_from : (f : FilterState) (r : Record) → ((u : ℕ) → u < r.toid → is_met f r.host u ≡ true) → is_held_back f.accepted r.host r.toid ≡ false → is_due f r ≡ true
due_from f r met unmarked = and_from (all_below (is_met f r.host) r.toid) (not (is_held_back f.accepted r.host r.toid)) (all_below_from (is_met f r.host) r.toid met) (not_from_false (is_held_back f.accepted r.host r.toid) unmarked)

pub free_parts : (f : FilterState) (r : Record) → is_free f r ≡ true → ((u : ℕ) → u < r.toid → is_done f r.host u ≡ true) × (is_held_back f.accepted r.host r.toid ≡ false)
free_parts f r is =
    let both = and_parts (all_below (is_done f r.host) r.toid) (not (is_held_back f.accepted r.host r.toid)) is in
    (λ u low. all_below_at (is_done f r.host) r.toid u both.0 low, not-true (is_held_back f.accepted r.host r.toid) both.1)

pub free_from : (f : FilterState) (r : Record) → ((u : ℕ) → u < r.toid → is_done f r.host u ≡ true) → is_held_back f.accepted r.host r.toid ≡ false → is_free f r ≡ true
free_from f r done unmarked = and_from (all_below (is_done f r.host) r.toid) (not (is_held_back f.accepted r.host r.toid)) (all_below_from (is_done f r.host) r.toid done) (not_from_false (is_held_back f.accepted r.host r.toid) unmarked)

pub met_gives : (f : FilterState) (h t : ℕ) → is_met f h t ≡ true → 1 ≤ t → owns f h t ≡ true → is_known f h t ≡ true
met_gives f h t is some own = settled_gives t (owns f h t) (is_known f h t) is some own

pub done_met : (f : FilterState) (h t : ℕ) → is_done f h t ≡ true → is_met f h t ≡ true
done_met f h t is = settled_from t (owns f h t) (is_known f h t) (λ some own. or_left (is_passed f h t) (is_held f h t) (settled_gives t (owns f h t) (is_passed f h t) is some own))

-- a number that is due lets smaller ones of its host be due
pub due_below : (f : FilterState) (d q : Record) → is_due f d ≡ true → q.host ≡ d.host → q.toid ≤ d.toid → is_due f q ≡ true
due_below f d q is host low =
    let parts = due_parts f d is in
    due_from f q (λ u under. subst (λ h. is_met f h u ≡ true) (sym host) (parts.0 u (omega arith)))
    (subst (λ h. is_held_back f.accepted h q.toid ≡ false) (sym host) (held_back_below f.accepted d.host d.toid q.toid parts.1 low))

pub own_is : (f : FilterState) (r : Record) → FitsFilter f r → owns f r.host r.toid ≡ true
own_is f r fits = eq-eqb (champion f.map r.host r.toid) f.number fits.own

-- Where none is due, a number is passed once all smaller own numbers are met, unless a mark holds it back.
module _ (f : FilterState) (steady : IsSteady f) where
  pub known_passed : (h t : ℕ) → ((u : ℕ) → u < t → is_met f h u ≡ true) → is_held_back f.accepted h t ≡ false → is_known f h t ≡ true → is_passed f h t ≡ true
  known_passed h t met unmarked known = elim (or_cases (is_passed f h t) (is_held f h t) known) [
    | inl passed ↦ passed
    | inr held ↦
        let found = held_parts f h t held in
        let now_due : is_due f found.0 ≡ true = due_from f found.0
        (λ u low. subst (λ g. is_met f g u ≡ true) (sym found.2) (met u (omega (arith, found.3))))
        (ap₂ (is_held_back f.accepted) found.2 found.3 ∙ unmarked) in
        absurd (true≢false (sym now_due ∙ All-contains (λ (r : Record). is_due f r ≡ false) f.held found.0 steady.none_due found.1))
  ]

  pub met_done : (h t : ℕ) → ((u : ℕ) → u < t → is_met f h u ≡ true) → is_held_back f.accepted h t ≡ false → (u : ℕ) → u < t → is_done f h u ≡ true
  met_done h t met unmarked u low = settled_from u (owns f h u) (is_passed f h u) (λ some own.
      known_passed h u (λ v under. met v (omega arith)) (held_back_below f.accepted h t u unmarked (omega arith)) (met_gives f h u (met u low) some own))

-- The filter with one record more among those held.
module _ (f : FilterState) (r : Record) where
  abbrev g : FilterState
  g = with_held f r

  abbrev early : Record → Bool
  early = stands_before r.host r.toid

  abbrev late : Record → Bool
  late = λ q. not (stands_before r.host r.toid q)

  pub with_gives : (q : Record) → Contains g.held q → (r ≡ q) ⊎ Contains f.held q
  with_gives q has = elim (Contains-append_cases (filter early f.held) (r ∷ filter late f.held) q has) [
    | inl front ↦ inr (Contains-filter early f.held q front).0
    | inr rest ↦ elim (Contains-cons r (filter late f.held) q rest) [
      | inl here ↦ inl here
      | inr back ↦ inr (Contains-filter late f.held q back).0
    ]
  ]

  pub with_keeps : (q : Record) → Contains f.held q → Contains g.held q
  with_keeps q has = elim (cases_Bool (early q)) [
    | inl before ↦ Contains-append_left (filter early f.held) (r ∷ filter late f.held) q (filter_keeps early f.held q has before)
    | inr after ↦ Contains-append_right (filter early f.held) (r ∷ filter late f.held) q (Contains-there r (filter late f.held) q (filter_keeps late f.held q has (not_from_false (early q) after)))
  ]

  pub with_has : Contains g.held r
  with_has = Contains-append_right (filter early f.held) (r ∷ filter late f.held) r (Contains-here r (filter late f.held))

  -- but for its own name nothing more is known
  pub known_less : (h t : ℕ) → is_known g h t ≡ true → ((r.host ≡ h) × (r.toid ≡ t) → ⊥) → is_known f h t ≡ true
  known_less h t is apart = elim (or_cases (is_passed g h t) (is_held g h t) is) [
    | inl passed ↦ or_left (is_passed f h t) (is_held f h t) passed
    | inr held ↦ let found = held_parts g h t held in elim (with_gives found.0 found.1) [
      | inl same ↦ absurd (apart (ap (λ (x : Record). x.host) same ∙ found.2, ap (λ (x : Record). x.toid) same ∙ found.3))
      | inr old ↦ or_right (is_passed f h t) (is_held f h t) (held_from f h t found.0 old found.2 found.3)
    ]
  ]

  pub known_more : (h t : ℕ) → is_known f h t ≡ true → is_known g h t ≡ true
  known_more h t is = elim (or_cases (is_passed f h t) (is_held f h t) is) [
    | inl passed ↦ or_left (is_passed g h t) (is_held g h t) passed
    | inr held ↦ let found = held_parts f h t held in or_right (is_passed g h t) (is_held g h t) (held_from g h t found.0 (with_keeps found.0 found.1) found.2 found.3)
  ]

  pub met_less : (h t : ℕ) → is_met g h t ≡ true → ((r.host ≡ h) × (r.toid ≡ t) → ⊥) → is_met f h t ≡ true
  met_less h t is apart = settled_from t (owns f h t) (is_known f h t) (λ some own. known_less h t (met_gives g h t is some own) apart)

  pub met_more : (h t : ℕ) → is_met f h t ≡ true → is_met g h t ≡ true
  met_more h t is = settled_from t (owns g h t) (is_known g h t) (λ some own. known_more h t (met_gives f h t is some own))

  -- a record that is not after the new one is due as before
  pub due_before : (q : Record) → ((r.host ≡ q.host) × (r.toid < q.toid) → ⊥) → is_due g q ≡ true → is_due f q ≡ true
  due_before q first is =
      let parts = due_parts g q is in
      due_from f q (λ u low. met_less q.host u (parts.0 u low) (λ both. first (both.0, omega (arith, both.1)))) parts.1

  -- and one after it is due only with it
  pub due_after : (q : Record) → r.host ≡ q.host → r.toid < q.toid → is_due g q ≡ true → is_due f r ≡ true
  due_after q host low is = due_before r (λ both. absurd (omega (arith, both.1))) (due_below g q r is host (omega arith))

  cases_after : (q : Record) → ((r.host ≡ q.host) × (r.toid < q.toid)) ⊎ ((r.host ≡ q.host) × (r.toid < q.toid) → ⊥)
  cases_after q = elim (cases_eq r.host q.host) [
    | inr apart ↦ inr (λ both. apart both.0)
    | inl same ↦ elim (cases_lt r.toid q.toid) [
      | inl low ↦ inl (same, low)
      | inr high ↦ inr (λ both. absurd (omega (arith, both.1)))
    ]
  ]

  -- where nothing was due and the new record is not, nothing is due
  pub none_due_with : All (λ q. is_due f q ≡ false) f.held → is_due f r ≡ false → All (λ q. is_due g q ≡ false) g.held
  none_due_with none unfree = all_from_contains (λ q. is_due g q ≡ false) g.held (λ q has. false_from_ne_true (is_due g q) (λ is. elim (cases_after q) [
    | inl both ↦ true≢false (sym (due_after q both.0 both.1 is) ∙ unfree)
    | inr first ↦ let was = due_before q first is in elim (with_gives q has) [
      | inl same ↦ true≢false (sym was ∙ ap (is_due f) (sym same) ∙ unfree)
      | inr old ↦ true≢false (sym was ∙ All-contains (λ x. is_due f x ≡ false) f.held q none old)
    ]
  ]))

  module _ (tidy : IsTidy f) (fits : FitsFilter f r) (new : is_known f r.host r.toid ≡ false) where
    unpassed : is_passed f r.host r.toid ≡ false
    unpassed = (or_parts (is_passed f r.host r.toid) (is_held f r.host r.toid) new).0

    unheld : (q : Record) → Contains f.held q → (q.host ≡ r.host) × (q.toid ≡ r.toid) → ⊥
    unheld q has named = true≢false (sym (held_from f r.host r.toid q has named.0 named.1) ∙ (or_parts (is_passed f r.host r.toid) (is_held f r.host r.toid) new).1)

    -- what is after the new record stands after it
    late_is : (q : Record) → Contains (filter late f.held) q → stands_before q.host q.toid r ≡ true
    late_is q has =
        let parts = Contains-filter late f.held q has in
        elim (not_before r.host r.toid q (not-true (early q) parts.1)) [
          | inl host ↦ before_from_host q.host q.toid r host
          | inr same ↦ elim (cases_lt r.toid q.toid) [
            | inl low ↦ before_from_toid q.host q.toid r (sym same.0) low
            | inr high ↦ absurd (unheld q parts.0 (same.0, omega (arith, same.1)))
          ]
        ]

    abbrev Rises : Record → Record → Type 0
    Rises = λ x y. stands_before y.host y.toid x ≡ true

    pub tidy_with : IsTidy g
    tidy_with = record {
      width = tidy.width;
      reached_own = tidy.reached_own;
      reached_open = tidy.reached_open;
      fits = all_from_contains (FitsFilter g) g.held (λ q has. elim (with_gives q has) [
        | inl same ↦ subst (FitsFilter g) same (record { host = fits.host; first = fits.first; own = fits.own })
        | inr old ↦ let was = All-contains (FitsFilter f) f.held q tidy.fits old in record { host = was.host; first = was.first; own = was.own }
      ]);
      unpassed = all_from_contains (λ (q : Record). is_passed g q.host q.toid ≡ false) g.held (λ q has. elim (with_gives q has) [
        | inl same ↦ subst (λ (x : Record). is_passed g x.host x.toid ≡ false) same unpassed
        | inr old ↦ All-contains (λ (x : Record). is_passed f x.host x.toid ≡ false) f.held q tidy.unpassed old
      ]);
      rising = pairs_append Rises (filter early f.held) (r ∷ filter late f.held)
          (AllPairs-filter Rises early f.held tidy.rising)
          (AllPairs-cons Rises r (filter late f.held) (all_from_contains (Rises r) (filter late f.held) late_is) (AllPairs-filter Rises late f.held tidy.rising))
          (all_from_contains (λ x. All (Rises x) (r ∷ filter late f.held)) (filter early f.held) (λ x has.
          let before : stands_before r.host r.toid x ≡ true = (Contains-filter early f.held x has).1 in
          All-cons (Rises x) r (filter late f.held) before (all_from_contains (Rises x) (filter late f.held) (λ q after. before_trans x r q.host q.toid before (late_is q after)))));
    }

-- All records that are due pass.
module _ (f : FilterState) (tidy : IsTidy f) where
  abbrev after : FilterState
  after = released f

  due_is : (d : Record) → Contains (due f) d → Contains f.held d × (is_due f d ≡ true)
  due_is d has = Contains-filter (is_due f) f.held d has

  fits_due : (d : Record) → Contains f.held d → FitsFilter f d
  fits_due d has = All-contains (FitsFilter f) f.held d tidy.fits has

  -- what is passed then was known
  pub passed_known : (h t : ℕ) → is_passed after h t ≡ true → is_known f h t ≡ true
  passed_known h t is =
      let parts = passed_parts after h t is in
      elim (reached_cases f.reached (due f) h) [
        | inl same ↦ or_left (is_passed f h t) (is_held f h t) (passed_from f h t parts.0 (omega (arith, same, parts.1)) parts.2)
        | inr (d, has, host, at) ↦
            let now = due_is d has in
            elim (cases_lt t d.toid) [
              | inl low ↦ met_gives f h t (subst (λ g. is_met f g t ≡ true) host ((due_parts f d now.1).0 t low)) parts.0 parts.2
              | inr high ↦ or_right (is_passed f h t) (is_held f h t) (held_from f h t d now.0 host (omega (arith, at, parts.1)))
            ]
      ]

  known_then : (h t : ℕ) → is_known after h t ≡ true → is_known f h t ≡ true
  known_then h t is = elim (or_cases (is_passed after h t) (is_held after h t) is) [
    | inl passed ↦ passed_known h t passed
    | inr held ↦
        let found = held_parts after h t held in
        or_right (is_passed f h t) (is_held f h t) (held_from f h t found.0 (Contains-filter (λ r. not (is_due f r)) f.held found.0 found.1).0 found.2 found.3)
  ]

  due_then : (q : Record) → is_due after q ≡ true → is_due f q ≡ true
  due_then q is =
      let parts = due_parts after q is in
      due_from f q (λ u low. settled_from u (owns f q.host u) (is_known f q.host u) (λ some own. known_then q.host u (met_gives after q.host u (parts.0 u low) some own))) parts.1

  kept_is : (q : Record) → Contains (not_due f) q → Contains f.held q × (is_due f q ≡ false)
  kept_is q has = let parts = Contains-filter (λ r. not (is_due f r)) f.held q has in (parts.0, not-true (is_due f q) parts.1)

  -- a number passed then was passed, or is at most a number that is due
  pub unpassed_then : (q : Record) → Contains (not_due f) q → is_passed after q.host q.toid ≡ true → ⊥
  unpassed_then q has is =
      let kept = kept_is q has in
      let parts = passed_parts after q.host q.toid is in
      elim (reached_cases f.reached (due f) q.host) [
        | inl same ↦ true≢false (sym (passed_from f q.host q.toid parts.0 (omega (arith, same, parts.1)) parts.2) ∙ All-contains (λ (r : Record). is_passed f r.host r.toid ≡ false) f.held q tidy.unpassed kept.0)
        | inr (d, in_due, host, at) ↦ true≢false (sym (due_below f d q (due_is d in_due).1 (sym host) (omega (arith, at, parts.1))) ∙ kept.1)
      ]

  pub released_steady : IsSteady after
  released_steady = record {
    tidy = record {
      width = reached_length f.reached (due f) ∙ tidy.width;
      reached_own = λ h some. elim (reached_cases f.reached (due f) h) [
        | inl same ↦ ap (owns f h) same ∙ tidy.reached_own h (omega (arith, same))
        | inr (d, has, host, at) ↦ ap (owns f h) at ∙ ap (λ g. owns f g d.toid) (sym host) ∙ own_is f d (fits_due d (due_is d has).0)
      ];
      reached_open = λ h some. elim (reached_cases f.reached (due f) h) [
        | inl same ↦ ap (is_held_back f.accepted h) same ∙ tidy.reached_open h (omega (arith, same))
        | inr (d, has, host, at) ↦ ap (is_held_back f.accepted h) at ∙ ap (λ g. is_held_back f.accepted g d.toid) (sym host) ∙ (due_parts f d (due_is d has).1).1
      ];
      rising = AllPairs-filter (λ q r. stands_before r.host r.toid q ≡ true) (λ r. not (is_due f r)) f.held tidy.rising;
      fits = all_from_contains (FitsFilter after) (not_due f) (λ q has. let was = fits_due q (kept_is q has).0 in record { host = was.host; first = was.first; own = was.own });
      unpassed = all_from_contains (λ (q : Record). is_passed after q.host q.toid ≡ false) (not_due f) (λ q has. false_from_ne_true (is_passed after q.host q.toid) (λ is. absurd (unpassed_then q has is)));
    };
    none_due = all_from_contains (λ (q : Record). is_due after q ≡ false) (not_due f) (λ q has. false_from_ne_true (is_due after q) (λ is. true≢false (sym (due_then q is) ∙ (kept_is q has).1)));
  }

-- A filter is sound by what it keeps.
pub count_none : (p : Record → Bool) (xs : List Record) → All (λ x. p x ≡ false) xs → count_by p xs ≡ 0
count_none p [] none = refl
count_none p (x ∷ xs) none =
    let here : ◌≡◌ {A = ℕ} (cond (p x) 1 0) 0 = cond-false (p x) 1 0 (All-head (λ y. p y ≡ false) x xs none) in
    omega (arith, sum_by-cons (λ y. cond (p y) 1 0) x xs, here, count_none p xs (All-tail (λ y. p y ≡ false) x xs none))

pub count_once : (h t : ℕ) (xs : List Record) → AllPairs (λ q r. stands_before r.host r.toid q ≡ true) xs → count_by (has_name h t) xs ≤ 1
count_once h t [] rising = omega arith
count_once h t (x ∷ xs) rising =
    let parts = pairs_parts (λ (q r : Record). stands_before r.host r.toid q ≡ true) x xs rising in
    let rest : count_by (has_name h t) xs ≤ 1 = count_once h t xs parts.1 in
    let cons = sum_by-cons (λ y. cond (has_name h t y) 1 0) x xs in
    elim (cases_Bool (has_name h t x)) [
      | inr other ↦ let zero_here : ◌≡◌ {A = ℕ} (cond (has_name h t x) 1 0) 0 = cond-false (has_name h t x) 1 0 other in omega (arith, cons, zero_here, rest)
      | inl named ↦
          let one_here : ◌≡◌ {A = ℕ} (cond (has_name h t x) 1 0) 1 = cond-true (has_name h t x) 1 0 named in
          let is = name_parts h t x named in
          let others : count_by (has_name h t) xs ≡ 0 = count_none (has_name h t) xs (all_from_contains (λ q. has_name h t q ≡ false) xs (λ q has. false_from_ne_true (has_name h t q) (λ also.
          let named_too = name_parts h t q also in
          elim (before_parts q.host q.toid x (All-contains (λ (r : Record). stands_before r.host r.toid x ≡ true) xs q parts.0 has)) [
            | inl low ↦ absurd (omega (arith, is.0, named_too.0))
            | inr same ↦ absurd (omega (arith, same.1, is.1, named_too.1))
          ]))) in
          omega (arith, cons, one_here, others)
    ]

pub steady_sound : (f : FilterState) → IsSteady f → IsSound f
steady_sound f steady = record {
  own_passed = λ h t is. (passed_parts f h t is).2;
  own_held = All-weaker (FitsFilter f) (λ (r : Record). owns f r.host r.toid ≡ true) (λ r fits. own_is f r fits) f.held steady.tidy.fits;
  once = λ h t. elim (cases_Bool (is_passed f h t)) [
    | inr new ↦ let none : times_passed h t f ≡ 0 = cond-false (is_passed f h t) 1 0 new in omega (arith, none, count_once h t f.held steady.tidy.rising)
    | inl passed ↦
        let one : times_passed h t f ≡ 1 = cond-true (is_passed f h t) 1 0 passed in
        let none : times_held h t f ≡ 0 = count_none (has_name h t) f.held (all_from_contains (λ q. has_name h t q ≡ false) f.held (λ q has. false_from_ne_true (has_name h t q) (λ named.
        let is = name_parts h t q named in
        true≢false (sym passed ∙ sym (ap₂ (is_passed f) is.0 is.1) ∙ All-contains (λ (r : Record). is_passed f r.host r.toid ≡ false) f.held q steady.tidy.unpassed has)))) in
        omega (arith, one, none)
  ];
  in_order = λ h t is. all_below_from (is_done f h) t (λ u low. settled_from u (owns f h u) (is_passed f h u) (λ some own. passed_from f h u some (omega (arith, (passed_parts f h t is).1)) own));
  none_free = all_from_contains (λ (r : Record). is_free f r ≡ false) f.held (λ q has. false_from_ne_true (is_free f q) (λ is.
      let parts = free_parts f q is in
      true≢false (sym (due_from f q (λ u low. done_met f q.host u (parts.0 u low)) parts.1) ∙ All-contains (λ (r : Record). is_due f r ≡ false) f.held q steady.none_due has)));
  below_mark = λ h t is. let parts = passed_parts f h t is in held_back_below f.accepted h (get_or f.reached h 0) t (steady.tidy.reached_open h (omega (arith, parts.0, parts.1))) parts.1;
}

-- What was passed on does not matter.
pub steady_out : (f : FilterState) (items : List Item) → IsSteady f → IsSteady (record f { out = items })
steady_out f items steady = record {
  tidy = record {
    width = steady.tidy.width;
    reached_own = steady.tidy.reached_own;
    reached_open = steady.tidy.reached_open;
    rising = steady.tidy.rising;
    fits = All-weaker (FitsFilter f) (FitsFilter (record f { out = items })) (λ r was. record { host = was.host; first = was.first; own = was.own }) f.held steady.tidy.fits;
    unpassed = steady.tidy.unpassed;
  };
  none_due = all_from_contains (λ (r : Record). is_due (record f { out = items }) r ≡ false) f.held (λ q has. false_from_ne_true (is_due (record f { out = items }) q) (λ is.
      let parts = due_parts (record f { out = items }) q is in
      true≢false (sym (due_from f q (λ u low. parts.0 u low) parts.1) ∙ All-contains (λ (r : Record). is_due f r ≡ false) f.held q steady.none_due has)));
}

pub none_reached : (n h : ℕ) → ◌≡◌ {A = ℕ} (get_or (replicate n 0) h 0) 0
none_reached zero h = refl
none_reached (suc n) zero = refl
none_reached (suc n) (suc h) = none_reached n h

-- a filter that passed or holds nothing
pub new_steady : (number : ℕ) (map : List (List Share)) → IsSteady (new_filter number map)
new_steady number map = record {
  tidy = record {
    width = length-replicate (length map) 0;
    reached_own = λ h some. absurd (omega (arith, none_reached (length map) h));
    reached_open = λ h some. refl;
    rising = λ i j d before inside. absurd (omega arith);
    fits = λ k d within. absurd (omega arith);
    unpassed = λ k d within. absurd (omega arith);
  };
  none_due = λ k d within. absurd (omega arith);
}

-- Taking a record keeps it.
pub taken_steady : (f : FilterState) (r : Record) (v : Verdict) (g : FilterState) → IsSteady f → FitsFilter f r → IsTaken f r v g → IsSteady g
taken_steady f r Dropped g steady fits took = subst IsSteady (sym took.1) steady
taken_steady f r Held g steady fits took = subst IsSteady (sym took.2) (record {
  tidy = tidy_with f r steady.tidy fits took.0;
  none_due = none_due_with f r steady.none_due (false_from_ne_true (is_due f r) (λ is.
      let parts = due_parts f r is in
      true≢false (sym (free_from f r (met_done f steady r.host r.toid parts.0 parts.1) parts.1) ∙ took.1)));
})
taken_steady f r Passed g steady fits took = subst IsSteady (sym took.2) (released_steady (with_held f r) (tidy_with f r steady.tidy fits took.0))
