-- Lists of takes.
use Rattle.std.proofs.Common.{◌≡◌, ◌≢◌, ◌⊎◌, ℕ, zero, suc, ◌+◌, ◌-◌, ◌<◌, ◌≤◌, Bool, true, false, cond, not, eqb, leb, ◌||◌, List, [], ◌∷◌, ◌++◌, length, map, get_or, set, refl, ap, ap₂, sym, ◌∙◌, subst, inl, inr, arith, Option, None, Some, Contains, replicate, append_assoc, append-nil}
use Rattle.std.specs.List.{All, AllPairs, count_by, sum_by}
use Rattle.std.proofs.lemmas.Bool.{cases_eq, cases_lt, cases_Bool, and_cases, or_cases, or_left, or_right, or_parts, not-false, not_from_false, true≢false, cond-true, cond-false, eqb-true, eq-eqb, false_from_ne_true}
use Rattle.std.proofs.lemmas.List.{get_or-set_same, get_or-set_other, length-set, length-replicate, get_or_default}
use Rattle.std.proofs.lemmas.Nat.{mod_below}
use Rattle.std.proofs.lemmas.List.Elements.{All-nil, All-cons, All-append, All-contains}
use Rattle.std.proofs.lemmas.List.Kept.{AllPairs-filter}
use Rattle.std.proofs.lemmas.List.Sums.{sum_by-cons, sum_by-append}
use Rattle.causal_deps.specs.declared.record.Record.{Record}
use Rattle.causal_deps.specs.declared.record.Item.TheVariants.{External}
use Rattle.causal_deps.proofs.Lists.{Contains-filter}
use Rattle.toid_filter.specs.declared.champions.Share.{Share}
use Rattle.toid_filter.specs.declared.filter.Verdict.{Verdict}
use Rattle.toid_filter.specs.declared.filter.Verdict.TheVariants.{Passed, Held, Dropped}
use Rattle.toid_filter.specs.Champions.{champion, dealt_by, dealt_from, first_map, last_share, last_of_shares, sole_share}
use Rattle.toid_filter.specs.Filters.{FilterState, Announcement, no_filter, new_filter, filter_at, owns, is_passed, has_name, is_held, is_known, times_passed, all_below, is_done, is_free, is_held_back, is_due, due, reached_by, released, stands_before, with_held, with_record, mark_accepted, IsTaken, FitsFilter, IsTidy, IsSteady, AreSound}
use Rattle.toid_filter.specs.Growth.{HasGained}
use Rattle.toid_filter.specs.Laws.{AreTaken, AreTakenByChampions, HasPassed, HavePassed, IsKnownToChampion, Waits}
use Rattle.toid_filter.proofs.Tests.{filter_keeps, all_from_contains, name_parts, name_from, before_parts, pairs_append}
use Rattle.toid_filter.proofs.Reached.{reached_more, reached_covers}
use Rattle.toid_filter.proofs.FilterLemmas.{passed_parts, passed_from, held_parts, held_from, own_is, with_has, known_more, tidy_with, passed_known, unpassed_then, taken_steady, steady_sound, new_steady, count_none, count_once}
use Rattle.toid_filter.proofs.Running.{above_reached}

pub count_some : (h t : ℕ) (xs : List Record) (x : Record) → Contains xs x → has_name h t x ≡ true → 1 ≤ count_by (has_name h t) xs
count_some h t [] x (k, within, is) named = absurd (omega arith)
count_some h t (y ∷ xs) x (zero, within, is) named =
    let here : ◌≡◌ {A = ℕ} (cond (has_name h t y) 1 0) 1 = cond-true (has_name h t y) 1 0 (ap (has_name h t) is ∙ named) in
    omega (arith, here, sum_by-cons (λ z. cond (has_name h t z) 1 0) y xs)
count_some h t (y ∷ xs) x (suc k, within, is) named = omega (arith, count_some h t xs x (k, omega arith, is) named, sum_by-cons (λ z. cond (has_name h t z) 1 0) y xs)

-- What passes where all that is due passes.
module _ (f : FilterState) (tidy : IsTidy f) where
  due_in : (d : Record) → Contains (due f) d → Contains f.held d × (is_due f d ≡ true)
  due_in d has = Contains-filter (is_due f) f.held d has

  fits_in : (d : Record) → Contains (due f) d → FitsFilter f d
  fits_in d has = All-contains (FitsFilter f) f.held d tidy.fits (due_in d has).0

  due_passed : (h t : ℕ) (d : Record) → Contains (due f) d → d.host ≡ h → d.toid ≡ t → is_passed (released f) h t ≡ true
  due_passed h t d has host toid =
      let fits = fits_in d has in
      let low : d.toid ≤ get_or (reached_by f.reached (due f)) d.host 0 = reached_covers f.reached (due f) d has (omega (arith, fits.host, tidy.width)) in
      ap₂ (is_passed (released f)) (sym host) (sym toid) ∙ passed_from (released f) d.host d.toid fits.first low (own_is f d fits)

  stays_passed : (h t : ℕ) → is_passed f h t ≡ true → is_passed (released f) h t ≡ true
  stays_passed h t is = let parts = passed_parts f h t is in passed_from (released f) h t parts.0 (omega (arith, parts.1, reached_more f.reached (due f) h)) parts.2

  -- a number that is passed now was passed, or is due
  passed_now : (h t : ℕ) → is_passed (released f) h t ≡ true → is_passed f h t ≡ false → (d : Record) × Contains (due f) d × (d.host ≡ h) × (d.toid ≡ t)
  passed_now h t is new = elim (or_cases (is_passed f h t) (is_held f h t) (passed_known f tidy h t is)) [
    | inl before ↦ absurd (true≢false (sym before ∙ new))
    | inr held ↦
        let found = held_parts f h t held in
        elim (cases_Bool (is_due f found.0)) [
          | inl yes_due ↦ (found.0, filter_keeps (is_due f) f.held found.0 found.1 yes_due, found.2, found.3)
          | inr no_due ↦ absurd (unpassed_then f tidy found.0 (filter_keeps (λ r. not (is_due f r)) f.held found.0 found.1 (not_from_false (is_due f found.0) no_due)) (ap₂ (is_passed (released f)) found.2 found.3 ∙ is))
        ]
  ]

  due_new : (h t : ℕ) → is_passed f h t ≡ true → count_by (has_name h t) (due f) ≡ 0
  due_new h t passed = count_none (has_name h t) (due f) (all_from_contains (λ q. has_name h t q ≡ false) (due f) (λ q has. false_from_ne_true (has_name h t q) (λ named.
      let is = name_parts h t q named in
      true≢false (sym passed ∙ sym (ap₂ (is_passed f) is.0 is.1) ∙ All-contains (λ (r : Record). is_passed f r.host r.toid ≡ false) f.held q tidy.unpassed (due_in q has).0))))

  due_rising : AllPairs (λ q r. stands_before r.host r.toid q ≡ true) (due f)
  due_rising = AllPairs-filter (λ q r. stands_before r.host r.toid q ≡ true) (is_due f) f.held tidy.rising

  due_counts : (h t : ℕ) → count_by (has_name h t) (due f) + times_passed h t f ≡ times_passed h t (released f)
  due_counts h t = elim (cases_Bool (is_passed f h t)) [
    | inl passed ↦
        let was : times_passed h t f ≡ 1 = cond-true (is_passed f h t) 1 0 passed in
        let now : times_passed h t (released f) ≡ 1 = cond-true (is_passed (released f) h t) 1 0 (stays_passed h t passed) in
        omega (arith, was, now, due_new h t passed)
    | inr new ↦
        let was : times_passed h t f ≡ 0 = cond-false (is_passed f h t) 1 0 new in
        elim (cases_Bool (is_passed (released f) h t)) [
          | inl passed ↦
              let now : times_passed h t (released f) ≡ 1 = cond-true (is_passed (released f) h t) 1 0 passed in
              let found = passed_now h t passed new in
              omega (arith, was, now, count_once h t (due f) due_rising, count_some h t (due f) found.0 found.1 (name_from h t found.0 found.2 found.3))
          | inr not_now ↦
              let now : times_passed h t (released f) ≡ 0 = cond-false (is_passed (released f) h t) 1 0 not_now in
              let none : count_by (has_name h t) (due f) ≡ 0 = count_none (has_name h t) (due f) (all_from_contains (λ q. has_name h t q ≡ false) (due f) (λ q has. false_from_ne_true (has_name h t q) (λ named.
              let is = name_parts h t q named in true≢false (sym (due_passed h t q has is.0 is.1) ∙ not_now)))) in
              omega (arith, was, now, none)
        ]
  ]

  known_stays : (h t : ℕ) → is_known f h t ≡ true → is_known (released f) h t ≡ true
  known_stays h t is = elim (or_cases (is_passed f h t) (is_held f h t) is) [
    | inl passed ↦ or_left (is_passed (released f) h t) (is_held (released f) h t) (stays_passed h t passed)
    | inr held ↦
        let found = held_parts f h t held in
        elim (cases_Bool (is_due f found.0)) [
          | inl yes_due ↦ or_left (is_passed (released f) h t) (is_held (released f) h t) (due_passed h t found.0 (filter_keeps (is_due f) f.held found.0 found.1 yes_due) found.2 found.3)
          | inr no_due ↦ or_right (is_passed (released f) h t) (is_held (released f) h t) (held_from (released f) h t found.0 (filter_keeps (λ r. not (is_due f r)) f.held found.0 found.1 (not_from_false (is_due f found.0) no_due)) found.2 found.3)
        ]
  ]

  -- what releasing passes
  pub release_passes : HasPassed f (released f) (due f)
  release_passes = record {
    out = refl;
    rising = λ i j d before within host. elim (before_parts (get_or (due f) j d).host (get_or (due f) j d).toid (get_or (due f) i d) (due_rising i j d before within)) [
      | inl low ↦ absurd (omega (arith, host))
      | inr same ↦ same.1
    ];
    counts = due_counts;
    new = all_from_contains (λ (q : Record). get_or f.reached q.host 0 < q.toid) (due f) (λ q has. above_reached f q (fits_in q has) (All-contains (λ (r : Record). is_passed f r.host r.toid ≡ false) f.held q tidy.unpassed (due_in q has).0));
    reached = all_from_contains (λ (q : Record). q.toid ≤ get_or (released f).reached q.host 0) (due f) (λ q has. reached_covers f.reached (due f) q has (omega (arith, (fits_in q has).host, tidy.width)));
    grows = reached_more f.reached (due f);
    keeps = known_stays;
  }

none_passed : (f : FilterState) → HasPassed f f []
none_passed f = record {
  out = sym (append-nil f.out);
  rising = λ i j d before within. absurd (omega arith);
  counts = λ h t. omega arith;
  new = All-nil (λ (q : Record). get_or f.reached q.host 0 < q.toid);
  reached = All-nil (λ (q : Record). q.toid ≤ get_or f.reached q.host 0);
  grows = λ h. omega arith;
  keeps = λ h t is. is;
}

-- one take
taken_passes : (f : FilterState) (r : Record) (v : Verdict) (g : FilterState) → IsSteady f → FitsFilter f r → IsTaken f r v g → ((gained : List Record) × HasPassed f g gained) × (is_known g r.host r.toid ≡ true)
taken_passes f r Dropped g steady fits took = subst (λ x. ((gained : List Record) × HasPassed f x gained) × (is_known x r.host r.toid ≡ true)) (sym took.1) (([], none_passed f), took.0)
taken_passes f r Held g steady fits took = subst (λ x. ((gained : List Record) × HasPassed f x gained) × (is_known x r.host r.toid ≡ true)) (sym took.2) (
  (
    [],
    record {
      out = sym (append-nil f.out);
      rising = λ i j d before within. absurd (omega arith);
      counts = λ h t. omega arith;
      new = All-nil (λ (q : Record). get_or f.reached q.host 0 < q.toid);
      reached = All-nil (λ (q : Record). q.toid ≤ get_or f.reached q.host 0);
      grows = λ h. omega arith;
      keeps = known_more f r;
    },
  ),
  or_right (is_passed (with_held f r) r.host r.toid) (is_held (with_held f r) r.host r.toid) (held_from (with_held f r) r.host r.toid r (with_has f r) refl refl),
)
taken_passes f r Passed g steady fits took = subst (λ x. ((gained : List Record) × HasPassed f x gained) × (is_known x r.host r.toid ≡ true)) (sym took.2)
    (let tidy : IsTidy (with_held f r) = tidy_with f r steady.tidy fits took.0 in
    let all = release_passes (with_held f r) tidy in (
      (due (with_held f r), record { out = all.out; rising = all.rising; counts = all.counts; new = all.new; reached = all.reached; grows = all.grows; keeps = λ h t is. all.keeps h t (known_more f r h t is) }),
      all.keeps r.host r.toid (or_right (is_passed (with_held f r) r.host r.toid) (is_held (with_held f r) r.host r.toid) (held_from (with_held f r) r.host r.toid r (with_has f r) refl refl)),
    ))

-- one after another
pub gained_of : (f g : FilterState) (a : List Record) → HasPassed f g a → HasGained f g a
gained_of f g a passed = record { out = passed.out; rising = passed.rising; counts = passed.counts; new = passed.new; reached = passed.reached; grows = passed.grows }

pub then_gained : (f g k : FilterState) (a b : List Record) → HasGained f g a → HasGained g k b → HasGained f k (a ++ b)
then_gained f g k a b one two = record {
  out = two.out ∙ ap (λ xs. xs ++ map External b) one.out ∙ append_assoc f.out (map External a) (map External b) ∙ ap (λ xs. f.out ++ xs) (sym (map_append a b));
  rising = pairs_append (λ (q r : Record). q.host ≡ r.host → q.toid < r.toid) a b one.rising two.rising
      (all_from_contains (λ (q : Record). All (λ (r : Record). q.host ≡ r.host → q.toid < r.toid) b) a (λ q has. all_from_contains (λ (r : Record). q.host ≡ r.host → q.toid < r.toid) b (λ r later host.
      omega (arith, All-contains (λ (x : Record). x.toid ≤ get_or g.reached x.host 0) a q one.reached has, All-contains (λ (x : Record). get_or g.reached x.host 0 < x.toid) b r two.new later, ap (λ h. get_or g.reached h 0) host))));
  counts = λ h t. omega (arith, one.counts h t, two.counts h t, sum_by-append (λ q. cond (has_name h t q) 1 0) a b);
  new = All-append (λ (q : Record). get_or f.reached q.host 0 < q.toid) a b one.new
      (all_from_contains (λ (q : Record). get_or f.reached q.host 0 < q.toid) b (λ q has. omega (arith, one.grows q.host, All-contains (λ (x : Record). get_or g.reached x.host 0 < x.toid) b q two.new has)));
  reached = All-append (λ (q : Record). q.toid ≤ get_or k.reached q.host 0) a b
      (all_from_contains (λ (q : Record). q.toid ≤ get_or k.reached q.host 0) a (λ q has. omega (arith, two.grows q.host, All-contains (λ (x : Record). x.toid ≤ get_or g.reached x.host 0) a q one.reached has))) two.reached;
  grows = λ h. omega (arith, one.grows h, two.grows h);
}
  where
    map_append : (xs ys : List Record) → map External (xs ++ ys) ≡ map External xs ++ map External ys
    map_append [] ys = refl
    map_append (x ∷ xs) ys = ap (λ zs. External x ∷ zs) (map_append xs ys)

then_passed : (f g k : FilterState) (a b : List Record) → HasPassed f g a → HasPassed g k b → HasPassed f k (a ++ b)
then_passed f g k a b one two =
    let both = then_gained f g k a b (gained_of f g a one) (gained_of g k b two) in
    record { out = both.out; rising = both.rising; counts = both.counts; new = both.new; reached = both.reached; grows = both.grows; keeps = λ h t is. two.keeps h t (one.keeps h t is) }

pub all_steady : (f g : FilterState) (rs : List Record) (vs : List Verdict) → IsSteady f → AreTaken f rs vs g → IsSteady g
all_steady f g [] [] steady took = subst IsSteady (sym took) steady
all_steady f g [] (v ∷ vs) steady took = absurd took
all_steady f g (r ∷ rs) [] steady took = absurd took
all_steady f g (r ∷ rs) (v ∷ vs) steady (next, fits, took, rest) = all_steady next g rs vs (taken_steady f r v next steady fits took) rest

pub all_pass : (f g : FilterState) (rs : List Record) (vs : List Verdict) → IsSteady f → AreTaken f rs vs g → (gained : List Record) × HasPassed f g gained
all_pass f g [] [] steady took = ([], subst (λ x. HasPassed f x []) (sym took) (none_passed f))
all_pass f g [] (v ∷ vs) steady took = absurd took
all_pass f g (r ∷ rs) [] steady took = absurd took
all_pass f g (r ∷ rs) (v ∷ vs) steady (next, fits, took, rest) =
    let first = (taken_passes f r v next steady fits took).0 in
    let later = all_pass next g rs vs (taken_steady f r v next steady fits took) rest in
    (first.0 ++ later.0, then_passed f next g first.0 later.0 first.1 later.1)

pub all_known : (f g : FilterState) (rs : List Record) (vs : List Verdict) → IsSteady f → AreTaken f rs vs g → All (λ r. is_known g r.host r.toid ≡ true) rs
all_known f g [] [] steady took = All-nil (λ (r : Record). is_known g r.host r.toid ≡ true)
all_known f g [] (v ∷ vs) steady took = absurd took
all_known f g (r ∷ rs) [] steady took = absurd took
all_known f g (r ∷ rs) (v ∷ vs) steady (next, fits, took, rest) =
    let next_steady = taken_steady f r v next steady fits took in
    let later = all_pass next g rs vs next_steady rest in
    All-cons (λ (q : Record). is_known g q.host q.toid ≡ true) r rs (later.1.keeps r.host r.toid (taken_passes f r v next steady fits took).1) (all_known next g rs vs next_steady rest)

-- what is held waits
all_below_not : (test : ℕ → Bool) (t : ℕ) → all_below test t ≡ false → (u : ℕ) × (u < t) × (test u ≡ false)
all_below_not test zero is = absurd (cc)
all_below_not test (suc t) is = elim (and_cases (test t) (all_below test t) is) [
  | inl here ↦ (t, omega arith, here)
  | inr below ↦ let found = all_below_not test t below in (found.0, omega (arith, found.1), found.2)
]

pub held_waits : (f : FilterState) (r : Record) → is_free f r ≡ false → Waits f r
held_waits f r is = elim (and_cases (all_below (is_done f r.host) r.toid) (not (is_held_back f.accepted r.host r.toid)) is) [
  | inr marked ↦ inr (not-false (is_held_back f.accepted r.host r.toid) marked)
  | inl undone ↦
      let found = all_below_not (is_done f r.host) r.toid undone in
      let parts = or_parts (eqb found.0 0) (not (owns f r.host found.0) || is_passed f r.host found.0) found.2 in
      let rest = or_parts (not (owns f r.host found.0)) (is_passed f r.host found.0) parts.1 in
      let some : 1 ≤ found.0 = elim (cases_lt found.0 1) [
        | inl none ↦ absurd (true≢false (sym (eq-eqb found.0 0 (omega arith)) ∙ parts.0))
        | inr more ↦ more
      ] in
      inl (found.0, some, found.1, not-false (owns f r.host found.0) rest.0, rest.1)
]

-- the relation gives one filter
pub taken_is : (f g : FilterState) (r : Record) (v : Verdict) → IsTaken f r v g → g ≡ with_record f r
taken_is f g r Dropped took = took.1 ∙ sym (cond-true (is_known f r.host r.toid) f (cond (is_free f r) (released (with_held f r)) (with_held f r)) took.0)
taken_is f g r Held took = took.2 ∙ sym (cond-false (is_free f r) (released (with_held f r)) (with_held f r) took.1) ∙ sym (cond-false (is_known f r.host r.toid) f (cond (is_free f r) (released (with_held f r)) (with_held f r)) took.0)
taken_is f g r Passed took = took.2 ∙ sym (cond-true (is_free f r) (released (with_held f r)) (with_held f r) took.1) ∙ sym (cond-false (is_known f r.host r.toid) f (cond (is_free f r) (released (with_held f r)) (with_held f r)) took.0)

-- all filters
sum_once : (n : FilterState → ℕ) (c base : ℕ) (fs : List FilterState) → ((i : ℕ) → i < length fs → n (filter_at fs i) ≤ 1) → ((i : ℕ) → i < length fs → base + i ≢ c → n (filter_at fs i) ≡ 0) → sum_by n fs ≤ 1
sum_once n c base [] most none = omega arith
sum_once n c base (f ∷ fs) most none = elim (cases_eq base c) [
  | inl same ↦ omega (arith, sum_by-cons n f fs, most 0 (omega arith), sum_zero fs (λ i low. none (suc i) (omega arith) (λ is. absurd (omega (arith, is)))))
  | inr other ↦ omega (arith, sum_by-cons n f fs, none 0 (omega arith) (λ is. other (omega (arith, is))), sum_once n c (suc base) fs (λ i low. most (suc i) (omega arith)) (λ i low apart. none (suc i) (omega arith) (λ is. apart (omega (arith, is)))))
]
  where
    sum_zero : (gs : List FilterState) → ((i : ℕ) → i < length gs → n (filter_at gs i) ≡ 0) → sum_by n gs ≡ 0
    sum_zero [] all = refl
    sum_zero (g ∷ gs) all = omega (arith, sum_by-cons n g gs, all 0 (omega arith), sum_zero gs (λ i low. all (suc i) (omega arith)))

pub passed_once : (map : List (List Share)) (a : Option Announcement) (fs : List FilterState) → AreSound map a fs → (h t : ℕ) → sum_by (times_passed h t) fs ≤ 1
passed_once map a fs sound h t = sum_once (times_passed h t) (champion map h t) 0 fs
    (λ i low. omega (arith, (steady_sound (filter_at fs i) (sound.each i no_filter low)).once h t))
    (λ i low apart. cond-false (is_passed (filter_at fs i) h t) 1 0 (false_from_ne_true (is_passed (filter_at fs i) h t) (λ is.
    let own = eqb-true (champion (filter_at fs i).map h t) (filter_at fs i).number ((steady_sound (filter_at fs i) (sound.each i no_filter low)).own_passed h t is) in
    apart (omega (arith, own, sound.numbers i low, ap (λ m. champion m h t) (sound.one_map i no_filter low))))))

pub taken_same : (f g : FilterState) (r : Record) (v : Verdict) → IsTaken f r v g → (g.number ≡ f.number) × (g.map ≡ f.map) × (g.accepted ≡ f.accepted)
taken_same f g r Dropped took = (ap (λ (x : FilterState). x.number) took.1, ap (λ (x : FilterState). x.map) took.1, ap (λ (x : FilterState). x.accepted) took.1)
taken_same f g r Held took = (ap (λ (x : FilterState). x.number) took.2, ap (λ (x : FilterState). x.map) took.2, ap (λ (x : FilterState). x.accepted) took.2)
taken_same f g r Passed took = (ap (λ (x : FilterState). x.number) took.2, ap (λ (x : FilterState). x.map) took.2, ap (λ (x : FilterState). x.accepted) took.2)

pub at_set : (P : ℕ → FilterState → Type 0) (fs : List FilterState) (i : ℕ) (x : FilterState) → P i x → ((j : ℕ) → j < length fs → P j (filter_at fs j)) → (j : ℕ) → j < length (set fs i x) → P j (filter_at (set fs i x) j)
at_set P fs i x here all j within =
    let inside : j < length fs = omega (arith, length-set fs i x) in
    elim (cases_eq j i) [
      | inl same ↦ subst (λ k. P k (get_or (set fs i x) k no_filter)) (sym same) (let low : i < length fs = omega arith in subst (P i) (sym (get_or-set_same fs i x no_filter low)) here)
      | inr other ↦ subst (P j) (sym (get_or-set_other fs i j x no_filter other)) (all j inside)
    ]

pub all_at : (P : FilterState → Type 0) (fs : List FilterState) → ((j : ℕ) → j < length fs → P (filter_at fs j)) → All P fs
all_at P fs each = λ k d within. subst P (get_or_default fs k no_filter d within) (each k within)

-- a steady filter in the place of another by the same map, with the same accepted mark
pub sound_set : (map : List (List Share)) (a : Option Announcement) (fs : List FilterState) (i : ℕ) (x : FilterState) → IsSteady x → x.number ≡ i → x.map ≡ map → x.accepted ≡ (filter_at fs i).accepted → i < length fs
    → AreSound map a fs → AreSound map a (set fs i x)
sound_set map a fs i x steady number one_map accepted low h = record {
  each = all_at IsSteady (set fs i x) (at_set (λ _ y. IsSteady y) fs i x steady (λ j within. h.each j no_filter within));
  one_map = all_at (λ (y : FilterState). y.map ≡ map) (set fs i x) (at_set (λ _ (y : FilterState). y.map ≡ map) fs i x one_map (λ j within. h.one_map j no_filter within));
  numbers = at_set (λ j (y : FilterState). y.number ≡ j) fs i x number h.numbers;
  heard = at_set (λ j (y : FilterState). y.accepted ≡ mark_accepted a j) fs i x (accepted ∙ h.heard i low) h.heard;
  host = h.host;
  asked = λ b is. omega (arith, h.asked b is, length-set fs i x);
  later = h.later;
  room = h.room;
  there = λ g t. omega (arith, h.there g t, length-set fs i x);
  enough = λ g. omega (arith, h.enough g, length-set fs i x);
}

-- one take by a champion
module _ (map : List (List Share)) (a : Option Announcement) (fs : List FilterState) (r : Record) (v : Verdict) (next : FilterState) (sound : AreSound map a fs) where
  abbrev taker : FilterState
  taker = filter_at fs (champion map r.host r.toid)

  pub take_sound : FitsFilter taker r → IsTaken taker r v next → AreSound map a (set fs (champion map r.host r.toid) next)
  take_sound fits took =
      let low : champion map r.host r.toid < length fs = sound.there r.host r.toid in
      let same = taken_same taker next r v took in
      sound_set map a fs (champion map r.host r.toid) next (taken_steady taker r v next (sound.each (champion map r.host r.toid) no_filter low) fits took)
      (same.0 ∙ sound.numbers (champion map r.host r.toid) low) (same.1 ∙ sound.one_map (champion map r.host r.toid) no_filter low) same.2 low sound

  pub take_passes : FitsFilter taker r → IsTaken taker r v next → ((gained : List Record) × HasPassed taker next gained) × (is_known next r.host r.toid ≡ true)
  take_passes fits took = taken_passes taker r v next (sound.each (champion map r.host r.toid) no_filter (sound.there r.host r.toid)) fits took

pub champions_sound : (map : List (List Share)) (a : Option Announcement) (fs gs : List FilterState) (rs : List Record) → AreSound map a fs → AreTakenByChampions map fs rs gs → AreSound map a gs
champions_sound map a fs gs [] sound took = subst (AreSound map a) (sym took) sound
champions_sound map a fs gs (r ∷ rs) sound (v, next, fits, took, rest) = champions_sound map a (set fs (champion map r.host r.toid) next) gs rs (take_sound map a fs r v next sound fits took) rest

-- what each filter passed
record Gained (fs gs : List FilterState) (gained : List (List Record)) : Type 0 where
  filters : length gs ≡ length fs
  lists : length gained ≡ length fs
  each : (i : ℕ) → i < length fs → HasPassed (filter_at fs i) (filter_at gs i) (get_or gained i [])

none_gained : (fs : List FilterState) → Gained fs fs (replicate (length fs) [])
none_gained fs = record {
  filters = refl;
  lists = length-replicate (length fs) [];
  each = λ i low. subst (HasPassed (filter_at fs i) (filter_at fs i)) (sym (none_at (length fs) i)) (none_passed (filter_at fs i));
}
  where
    none_at : (n i : ℕ) → ◌≡◌ {A = List Record} (get_or (replicate n []) i []) []
    none_at zero i = refl
    none_at (suc n) zero = refl
    none_at (suc n) (suc i) = none_at n i

-- one filter passed some, then all passed some
module _ (fs gs : List FilterState) (i : ℕ) (next : FilterState) (first : List Record) (later : List (List Record)) (low : i < length fs) (one : HasPassed (filter_at fs i) next first) (rest : Gained (set fs i next) gs later) where
  abbrev both : List Record
  both = first ++ get_or later i []

  then_it : HasPassed next (filter_at gs i) (get_or later i [])
  then_it = subst (λ y. HasPassed y (filter_at gs i) (get_or later i [])) (get_or-set_same fs i next no_filter low) (rest.each i (omega (arith, length-set fs i next)))

  inside : i < length later
  inside = omega (arith, rest.lists, length-set fs i next)

  at_it : HasPassed (filter_at fs i) (filter_at gs i) (get_or (set later i both) i [])
  at_it = subst (HasPassed (filter_at fs i) (filter_at gs i)) (sym (get_or-set_same later i both [] inside)) (then_passed (filter_at fs i) next (filter_at gs i) first (get_or later i []) one then_it)

  more_gained : Gained fs gs (set later i both)
  more_gained = record {
    filters = omega (arith, rest.filters, length-set fs i next);
    lists = omega (arith, rest.lists, length-set fs i next, length-set later i both);
    each = λ j within. elim (cases_eq j i) [
      | inl same ↦ subst (λ k. HasPassed (filter_at fs k) (filter_at gs k) (get_or (set later i both) k [])) (sym same) at_it
      | inr other ↦ subst (λ y. HasPassed y (filter_at gs j) (get_or (set later i both) j [])) (get_or-set_other fs i j next no_filter other)
          (subst (HasPassed (filter_at (set fs i next) j) (filter_at gs j)) (sym (get_or-set_other later i j both [] other)) (rest.each j (omega (arith, length-set fs i next))))
    ];
  }

champions_gain : (map : List (List Share)) (a : Option Announcement) (fs gs : List FilterState) (rs : List Record) → AreSound map a fs → AreTakenByChampions map fs rs gs → (gained : List (List Record)) × Gained fs gs gained
champions_gain map a fs gs [] sound took = subst (λ xs. (gained : List (List Record)) × Gained fs xs gained) (sym took) (replicate (length fs) [], none_gained fs)
champions_gain map a fs gs (r ∷ rs) sound (v, next, fits, took, rest) =
    let i : ℕ = champion map r.host r.toid in
    let first = (take_passes map a fs r v next sound fits took).0 in
    let later = champions_gain map a (set fs i next) gs rs (take_sound map a fs r v next sound fits took) rest in
    (set later.0 i (first.0 ++ get_or later.0 i []), more_gained fs gs i next first.0 later.0 (sound.there r.host r.toid) first.1 later.1)

-- what all filters gained counts together
sums_agree : (c : List Record → ℕ) (n : FilterState → ℕ) (fs gs : List FilterState) (gained : List (List Record)) → length gs ≡ length fs → length gained ≡ length fs
    → ((i : ℕ) → i < length fs → c (get_or gained i []) + n (filter_at fs i) ≡ n (filter_at gs i)) → sum_by c gained + sum_by n fs ≡ sum_by n gs
sums_agree c n [] [] [] filters lists each = refl
sums_agree c n [] [] (x ∷ xs) filters lists each = absurd (omega (arith, lists))
sums_agree c n [] (g ∷ gs) gained filters lists each = absurd (omega (arith, filters))
sums_agree c n (f ∷ fs) [] gained filters lists each = absurd (omega (arith, filters))
sums_agree c n (f ∷ fs) (g ∷ gs) [] filters lists each = absurd (omega (arith, lists))
sums_agree c n (f ∷ fs) (g ∷ gs) (x ∷ xs) filters lists each =
    omega (arith, sum_by-cons c x xs, sum_by-cons n f fs, sum_by-cons n g gs, each 0 (omega arith), sums_agree c n fs gs xs (omega (arith, filters)) (omega (arith, lists)) (λ i low. each (suc i) (omega arith)))

pub champions_pass : (map : List (List Share)) (a : Option Announcement) (fs gs : List FilterState) (rs : List Record) → AreSound map a fs → AreTakenByChampions map fs rs gs → (gained : List (List Record)) × HavePassed fs gs gained
champions_pass map a fs gs rs sound took =
    let found = champions_gain map a fs gs rs sound took in
    let after : AreSound map a gs = champions_sound map a fs gs rs sound took in (
      found.0,
      record {
        filters = found.1.filters;
        lists = found.1.lists;
        each = found.1.each;
        once = λ h t. omega (arith, passed_once map a gs after h t, sums_agree (count_by (has_name h t)) (times_passed h t) fs gs found.0 found.1.filters found.1.lists (λ i low. (found.1.each i low).counts h t));
      },
    )

pub champions_know : (map : List (List Share)) (a : Option Announcement) (fs gs : List FilterState) (rs : List Record) → AreSound map a fs → AreTakenByChampions map fs rs gs → All (IsKnownToChampion map gs) rs
champions_know map a fs gs [] sound took = All-nil (IsKnownToChampion map gs)
champions_know map a fs gs (r ∷ rs) sound (v, next, fits, took, rest) =
    let i : ℕ = champion map r.host r.toid in
    let low : i < length fs = sound.there r.host r.toid in
    let after = take_sound map a fs r v next sound fits took in
    let later = champions_gain map a (set fs i next) gs rs after rest in
    let known : is_known (filter_at (set fs i next) i) r.host r.toid ≡ true = ap (λ x. is_known x r.host r.toid) (get_or-set_same fs i next no_filter low) ∙ (take_passes map a fs r v next sound fits took).1 in
    All-cons (IsKnownToChampion map gs) r rs ((later.1.each i (omega (arith, length-set fs i next))).keeps r.host r.toid known) (champions_know map a (set fs i next) gs rs after rest)

-- the filters that a datacentre begins with
first_shares : (n h : ℕ) (xs : List Share) → (get_or (replicate n xs) h [] ≡ xs) ⊎ (get_or (replicate n xs) h [] ≡ [])
first_shares zero h xs = inr refl
first_shares (suc n) zero xs = inl refl
first_shares (suc n) (suc h) xs = first_shares n h xs

module _ (dcs filters : ℕ) (some : 1 ≤ filters) where
  abbrev first_share : Share
  first_share = record { start = 1; filters = filters }

  dealt_low : (share : Share) (h t : ℕ) → 1 ≤ share.filters → share.filters ≤ filters → dealt_by share h t < filters
  dealt_low share h t least most = omega (arith, mod_below ((h + t) - share.start) share.filters least)

  either_low : (b : Bool) (h t : ℕ) → dealt_by (cond b first_share sole_share) h t < filters
  either_low true h t = dealt_low first_share h t some (omega arith)
  either_low false h t = dealt_low sole_share h t (omega arith) some

  first_there : (h t : ℕ) → champion (first_map dcs filters) h t < filters
  first_there h t = elim (first_shares dcs h (first_share ∷ [])) [
    | inl is ↦ subst (λ xs. dealt_from sole_share xs h t < filters) (sym is) (either_low (leb 1 t) h t)
    | inr is ↦ subst (λ xs. dealt_from sole_share xs h t < filters) (sym is) (either_low false h t)
  ]

  first_enough : (h : ℕ) → (last_share (first_map dcs filters) h).filters ≤ filters
  first_enough h = elim (first_shares dcs h (first_share ∷ [])) [
    | inl is ↦ subst (λ xs. (last_of_shares sole_share xs).filters ≤ filters) (sym is) (omega arith)
    | inr is ↦ subst (λ xs. (last_of_shares sole_share xs).filters ≤ filters) (sym is) some
  ]

pub new_sound : (dcs filters : ℕ) (fs : List FilterState) → 1 ≤ dcs → dcs ≤ 8 → 1 ≤ filters → length fs ≡ filters → ((i : ℕ) → i < filters → filter_at fs i ≡ new_filter i (first_map dcs filters)) → AreSound (first_map dcs filters) None fs
new_sound dcs filters fs one few some all new = record {
  each = all_at IsSteady fs (λ i low. subst IsSteady (sym (new i (omega arith))) (new_steady i (first_map dcs filters)));
  one_map = all_at (λ (f : FilterState). f.map ≡ first_map dcs filters) fs (λ i low. ap (λ (f : FilterState). f.map) (new i (omega arith)));
  numbers = λ i low. ap (λ (f : FilterState). f.number) (new i (omega arith));
  heard = λ i low. ap (λ (f : FilterState). f.accepted) (new i (omega arith));
  host = λ a is. absurd (none_some a is);
  asked = λ a is. absurd (none_some a is);
  later = λ a is. absurd (none_some a is);
  room = λ a is. absurd (none_some a is);
  there = λ h t. omega (arith, first_there dcs filters some h t);
  enough = λ h. omega (arith, first_enough dcs filters some h);
}
  where
    none_some : (a : Announcement) → ◌≡◌ {A = Option Announcement} None (Some a) → ⊥
    none_some a is = absurd (cc)
