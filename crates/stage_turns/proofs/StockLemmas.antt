-- What a sender reads of its maintainers: the entries by rising position.
use Rattle.std.proofs.Common.{◌≡◌, ℕ, Bool, true, false, suc, ◌+◌, ◌-◌, ◌%◌, ◌<◌, ◌≤◌, cond, ltb, eqb, List, [], ◌∷◌, ◌++◌, length, get_or, take, find, Option, Some, None, IsSome, refl, ap, sym, ◌∙◌, subst, inl, inr, arith}
use Rattle.std.specs.List.{All, Contains, flat_map, fold, sum_by}
use Rattle.std.specs.Option.{option_map}
use Rattle.std.proofs.Math.Seq.{take-suc, take-length}
use Rattle.std.proofs.lemmas.Bool.{both_ways, cases_Bool, cases_lt, cases_eq, cond-true, cond-false, cond_both, eq-eqb, ne_eqb, lt-ltb, le-ltb}
use Rattle.std.proofs.lemmas.Grind.{flat_map-append}
use Rattle.std.proofs.lemmas.List.{append-nil}
use Rattle.std.proofs.lemmas.List.Elements.{All-nil, All-cons, All-head, All-tail, All-append, Contains-append_left, Contains-append_right}
use Rattle.std.proofs.lemmas.List.Sums.{sum_by-cons, sum_by-append}
use Rattle.causal_deps.specs.declared.record.Record.{Record}
use Rattle.maintainer.specs.declared.slot.Slot.{Slot}
use Rattle.maintainer.specs.Maintainers.{AreRising, MaintainerState, times_in}
use Rattle.maintainer.proofs.CountLemmas.{rising-tail}
use Rattle.sender_receiver.specs.Stocks.{Stocked, IsRisingFrom, record_placed}
use Rattle.stage_world.specs.Stages.{filled}
use Rattle.stage_world.specs.MoreTurns.{sorted_in, stock_of, stocked}
use Rattle.stage_world.proofs.ListLemmas.{Contains-head, Contains-tail, Contains-cases}
use Rattle.stage_world.proofs.StockLemmas.{read_by, sorted_with, All-sorted_in, All-sorted, there-sorted, All-read_by}
use Rattle.stage_turns.specs.Told.{AreApart, nearer_of}

-- an entry in its place

rising-sorted_in : (low : ℕ) (e : Stocked) (es : List Stocked) → IsRisingFrom low es → low < e.lid → All (λ (x : Stocked). x.lid ≡ e.lid → ⊥) es → IsRisingFrom low (sorted_in e es)
rising-sorted_in low e [] rising past apart = (past, tt)
rising-sorted_in low e (x ∷ xs) rising past apart = elim (cases_lt e.lid x.lid) [
  | inl first ↦ subst (IsRisingFrom low) (sym (cond-true (ltb e.lid x.lid) (e ∷ x ∷ xs) (x ∷ sorted_in e xs) (lt-ltb e.lid x.lid first))) (past, (first, rising.1))
  | inr later ↦
      let other = All-head (λ (y : Stocked). y.lid ≡ e.lid → ⊥) x xs apart in
      let behind : x.lid < e.lid = elim (cases_eq x.lid e.lid) [ inl same ↦ absurd (other same) | inr not ↦ omega (arith, not) ] in
      subst (IsRisingFrom low) (sym (cond-false (ltb e.lid x.lid) (e ∷ x ∷ xs) (x ∷ sorted_in e xs) (le-ltb e.lid x.lid later)))
      (rising.0, rising-sorted_in x.lid e xs rising.1 behind (All-tail (λ (y : Stocked). y.lid ≡ e.lid → ⊥) x xs apart))
]

-- the entries are apart from one another and from what is held
rising-sorted : (held : List Stocked) (es : List (Slot Record)) → IsRisingFrom 0 held → All (λ (e : Slot Record). 1 ≤ e.lid) es → ((p : ℕ) → times_in p es ≤ 1)
    → All (λ (x : Stocked). times_in x.lid es ≡ 0) held → IsRisingFrom 0 (sorted_with held es)
rising-sorted held [] rising first once apart = rising
rising-sorted held (e ∷ es) rising first once apart =
    let count : (p : ℕ) → times_in p (e ∷ es) ≡ cond (eqb e.lid p) 1 0 + times_in p es = λ p. sum_by-cons (λ (x : Slot Record). cond (eqb x.lid p) 1 0) e es in
    let here : cond {A = ℕ} (eqb e.lid e.lid) 1 0 ≡ 1 = cond-true {A = ℕ} (eqb e.lid e.lid) 1 0 (eq-eqb e.lid e.lid refl) in
    let others : All (λ (x : Stocked). x.lid ≡ e.lid → ⊥) held = λ k x within same.
    absurd (omega (arith, apart k x within, count (get_or held k x).lid, cond-true {A = ℕ} (eqb e.lid (get_or held k x).lid) 1 0 (eq-eqb e.lid (get_or held k x).lid (sym same)))) in
    let still : All (λ (x : Stocked). times_in x.lid es ≡ 0) held = λ k x within. omega (arith, apart k x within, count (get_or held k x).lid) in
    let none : times_in e.lid es ≡ 0 = omega (arith, once e.lid, count e.lid, here) in
    rising-sorted (sorted_in (stocked e) held) es
    (rising-sorted_in 0 (stocked e) held rising (All-head (λ (x : Slot Record). 1 ≤ x.lid) e es first) others)
    (All-tail (λ (x : Slot Record). 1 ≤ x.lid) e es first)
    (λ p. omega (arith, once p, count p))
    (All-sorted_in (λ (x : Stocked). times_in x.lid es ≡ 0) (stocked e) held none still)

-- the maintainers that are read

times-read_by : (p k n : ℕ) (ms : List (MaintainerState Record)) → times_in p (read_by k n ms) ≤ filled p ms
times-read_by p k n [] = omega arith
times-read_by p k n (m ∷ ms) =
    let chosen : times_in p (cond (eqb (m.number % n) k) m.entries []) ≤ times_in p m.entries = cond_both (eqb (m.number % n) k) m.entries [] (λ es. times_in p es ≤ times_in p m.entries) (λ _. omega arith) (λ _. omega arith) in
    omega (
      arith,
      chosen,
      times-read_by p k n ms,
      sum_by-append (λ (x : Slot Record). cond (eqb x.lid p) 1 0) (cond (eqb (m.number % n) k) m.entries []) (read_by k n ms),
      sum_by-cons (λ (x : MaintainerState Record). times_in p x.entries + sum_by (λ (q : ℕ). cond (eqb q p) 1 0) x.gone) m ms,
    )

pub stock_rises : (ms : List (MaintainerState Record)) (k n : ℕ) → AreApart ms → IsRisingFrom 0 (stock_of ms k n)
stock_rises ms k n apart =
    rising-sorted [] (read_by k n ms) tt (All-read_by (λ (e : Slot Record). 1 ≤ e.lid) k n ms apart.first)
    (λ p. omega (arith, times-read_by p k n ms, apart.once p)) (All-nil (λ (x : Stocked). times_in x.lid (read_by k n ms) ≡ 0))

-- the entry at the least position among those that pass a test
module _ (test : Stocked → Bool) where
  pub record HasNearest (es : List (Slot Record)) (e : Slot Record) : Type 0 where
    pub passes : test (stocked e) ≡ true
    pub there : Contains es e
    pub least : All (λ (x : Slot Record). test (stocked x) ≡ true → e.lid ≤ x.lid) es

  abbrev pub IsNearest : List (Slot Record) → Option (Slot Record) → Type 0
  IsNearest es None = All (λ (e : Slot Record). test (stocked e) ≡ false) es
  IsNearest es (Some e) = HasNearest es e

  -- the first of a list that passes
  abbrev pub first_of : List (Slot Record) → Option (Slot Record)
  first_of es = find (λ e. test (stocked e)) es

  nearest_behind : (x : Slot Record) (xs : List (Slot Record)) (o : Option (Slot Record)) → test (stocked x) ≡ false → IsNearest xs o → IsNearest (x ∷ xs) o
  nearest_behind x xs None fails h = All-cons (λ (e : Slot Record). test (stocked e) ≡ false) x xs fails h
  nearest_behind x xs (Some e) fails h = record {
    passes = h.passes;
    there = Contains-tail x e xs h.there;
    least = All-cons (λ (y : Slot Record). test (stocked y) ≡ true → e.lid ≤ y.lid) x xs (λ passes. absurd (both_ways (test (stocked x)) fails passes)) h.least;
  }

  first_is_nearest : (es : List (Slot Record)) → AreRising es → IsNearest es (first_of es)
  first_is_nearest [] rising = All-nil (λ (e : Slot Record). test (stocked e) ≡ false)
  first_is_nearest (x ∷ xs) rising = elim (cases_Bool (test (stocked x))) [
    | inl passes ↦ subst (IsNearest (x ∷ xs)) (sym (cond-true (test (stocked x)) (Some x) (first_of xs) passes)) (record {
      passes = passes;
      there = Contains-head x xs;
      least = All-cons (λ (y : Slot Record). test (stocked y) ≡ true → x.lid ≤ y.lid) x xs (λ _. omega arith) (λ k y within _. omega (arith, rising.below 0 (suc k) y (omega arith) (omega arith)));
    })
    | inr fails ↦ subst (IsNearest (x ∷ xs)) (sym (cond-false (test (stocked x)) (Some x) (first_of xs) fails)) (nearest_behind x xs (first_of xs) fails (first_is_nearest xs (rising-tail x xs rising)))
  ]

  -- the nearer of two is the nearest of both
  nearest_left : (xs ys : List (Slot Record)) (e : Slot Record) → HasNearest xs e → All (λ (x : Slot Record). test (stocked x) ≡ true → e.lid ≤ x.lid) ys → HasNearest (xs ++ ys) e
  nearest_left xs ys e h rest = record {
    passes = h.passes;
    there = Contains-append_left xs ys e h.there;
    least = All-append (λ (x : Slot Record). test (stocked x) ≡ true → e.lid ≤ x.lid) xs ys h.least rest;
  }

  nearest_right : (xs ys : List (Slot Record)) (e : Slot Record) → HasNearest ys e → All (λ (x : Slot Record). test (stocked x) ≡ true → e.lid ≤ x.lid) xs → HasNearest (xs ++ ys) e
  nearest_right xs ys e h front = record {
    passes = h.passes;
    there = Contains-append_right xs ys e h.there;
    least = All-append (λ (x : Slot Record). test (stocked x) ≡ true → e.lid ≤ x.lid) xs ys front h.least;
  }

  none_pass : (es : List (Slot Record)) (e : Slot Record) → All (λ (x : Slot Record). test (stocked x) ≡ false) es → All (λ (x : Slot Record). test (stocked x) ≡ true → e.lid ≤ x.lid) es
  none_pass es e fail = λ k x within passes. absurd (both_ways (test (stocked (get_or es k x))) (fail k x within) passes)

  farther : (es : List (Slot Record)) (a b : Slot Record) → a.lid ≤ b.lid → HasNearest es b → All (λ (x : Slot Record). test (stocked x) ≡ true → a.lid ≤ x.lid) es
  farther es a b le h = λ k x within passes. omega (arith, le, h.least k x within passes)

  nearest_of_both : (xs ys : List (Slot Record)) (a b : Option (Slot Record)) → IsNearest xs a → IsNearest ys b → IsNearest (xs ++ ys) (nearer_of a b)
  nearest_of_both xs ys None None h g = All-append (λ (e : Slot Record). test (stocked e) ≡ false) xs ys h g
  nearest_of_both xs ys None (Some b) h g = nearest_right xs ys b g (none_pass xs b h)
  nearest_of_both xs ys (Some a) None h g = nearest_left xs ys a h (none_pass ys a g)
  nearest_of_both xs ys (Some a) (Some b) h g = elim (cases_lt b.lid a.lid) [
    | inl nearer ↦ subst (IsNearest (xs ++ ys)) (sym (cond-true (ltb b.lid a.lid) (Some b) (Some a) (lt-ltb b.lid a.lid nearer))) (nearest_right xs ys b g (farther xs b a (omega arith) h))
    | inr not ↦ subst (IsNearest (xs ++ ys)) (sym (cond-false (ltb b.lid a.lid) (Some b) (Some a) (le-ltb b.lid a.lid not))) (nearest_left xs ys a h (farther ys a b not g))
  ]

-- maintainer after maintainer

read_by_more : (k n i : ℕ) (ms : List (MaintainerState Record)) (m : MaintainerState Record) → i < length ms → m ≡ get_or ms i m
    → read_by k n (take (i + 1) ms) ≡ read_by k n (take i ms) ++ cond (eqb (m.number % n) k) m.entries []
read_by_more k n i ms m within is =
    let next : i + 1 ≡ suc i = omega arith in
    let one : read_by k n (m ∷ []) ≡ cond (eqb (m.number % n) k) m.entries [] = append-nil (cond (eqb (m.number % n) k) m.entries []) in
    ap (λ j. read_by k n (take j ms)) next
    ∙ ap (read_by k n) (take-suc ms i m within)
    ∙ ap (λ x. read_by k n (take i ms ++ x ∷ [])) (sym is)
    ∙ flat_map-append (λ (x : MaintainerState Record). cond (eqb (x.number % n) k) x.entries []) (take i ms) (m ∷ [])
    ∙ ap (λ es. read_by k n (take i ms) ++ es) one

-- in a list that rises, the nearest is the first that passes

above_low : (low : ℕ) (held : List Stocked) (x : Stocked) → IsRisingFrom low held → Contains held x → low < x.lid
above_low low [] x rising has = absurd (omega (arith, has.1))
above_low low (y ∷ ys) x rising has = elim (Contains-cases y x ys has) [
  | inl same ↦ omega (arith, rising.0, ap (λ (s : Stocked). s.lid) same)
  | inr later ↦ omega (arith, rising.0, above_low y.lid ys x rising.1 later)
]

module _ (test : Stocked → Bool) where
  pub nearest_with : (k n i : ℕ) (ms : List (MaintainerState Record)) (m : MaintainerState Record) (a new b : Option (Slot Record)) → i < length ms → m ≡ get_or ms i m → m.number % n ≡ k
      → AreRising m.entries → b ≡ first_of test m.entries → new ≡ nearer_of a b → IsNearest test (read_by k n (take i ms)) a → IsNearest test (read_by k n (take (i + 1) ms)) new
  nearest_with k n i ms m a new b within is chosen rising after nearer h =
      let whole = read_by_more k n i ms m within is ∙ ap (λ es. read_by k n (take i ms) ++ es) (cond-true (eqb (m.number % n) k) m.entries [] (eq-eqb (m.number % n) k chosen)) in
      let both : IsNearest test (read_by k n (take i ms) ++ m.entries) (nearer_of a (first_of test m.entries)) = nearest_of_both test (read_by k n (take i ms)) m.entries a (first_of test m.entries) h (first_is_nearest test m.entries rising) in
      let P : List (Slot Record) → Type 0 = λ es. IsNearest test es new in
      subst P (sym whole) (subst (IsNearest test (read_by k n (take i ms) ++ m.entries)) (ap (nearer_of a) (sym after) ∙ sym nearer) both)

  pub nearest_without : (k n i : ℕ) (ms : List (MaintainerState Record)) (m : MaintainerState Record) (a new : Option (Slot Record)) → i < length ms → m ≡ get_or ms i m → (m.number % n ≡ k → ⊥)
      → new ≡ a → IsNearest test (read_by k n (take i ms)) a → IsNearest test (read_by k n (take (i + 1) ms)) new
  nearest_without k n i ms m a new within is other same h =
      let whole = read_by_more k n i ms m within is ∙ ap (λ es. read_by k n (take i ms) ++ es) (cond-false (eqb (m.number % n) k) m.entries [] (ne_eqb (m.number % n) k other)) ∙ append-nil (read_by k n (take i ms)) in
      subst (λ es. IsNearest test es new) (sym whole) (subst (IsNearest test (read_by k n (take i ms))) (sym same) h)

  first_is : (held : List Stocked) (low : ℕ) (x : Stocked) → IsRisingFrom low held → test x ≡ true → Contains held x → All (λ (y : Stocked). test y ≡ true → x.lid ≤ y.lid) held
      → find test held ≡ Some x
  first_is [] low x rising passes has least = absurd (omega (arith, has.1))
  first_is (y ∷ ys) low x rising passes has least = elim (Contains-cases y x ys has) [
    | inl same ↦ cond-true (test y) (Some y) (find test ys) (ap test same ∙ passes) ∙ ap (λ s. Some s) same
    | inr later ↦ elim (cases_Bool (test y)) [
      | inl early ↦ absurd (omega (arith, All-head (λ (z : Stocked). test z ≡ true → x.lid ≤ z.lid) y ys least early, above_low y.lid ys x rising.1 later))
      | inr fails ↦ cond-false (test y) (Some y) (find test ys) fails ∙ first_is ys y.lid x rising.1 passes later (All-tail (λ (z : Stocked). test z ≡ true → x.lid ≤ z.lid) y ys least)
    ]
  ]

  none_is : (held : List Stocked) → All (λ (y : Stocked). test y ≡ false) held → find test held ≡ None
  none_is [] fail = refl
  none_is (y ∷ ys) fail =
      cond-false (test y) (Some y) (find test ys) (All-head (λ (z : Stocked). test z ≡ false) y ys fail) ∙ none_is ys (All-tail (λ (z : Stocked). test z ≡ false) y ys fail)

  nearest_is : (ms : List (MaintainerState Record)) (k n : ℕ) (o : Option (Slot Record)) → AreApart ms → IsNearest test (read_by k n ms) o → option_map stocked o ≡ find test (stock_of ms k n)
  nearest_is ms k n None apart h = sym (none_is (stock_of ms k n) (All-sorted (λ (y : Stocked). test y ≡ false) [] (read_by k n ms) (All-nil (λ (y : Stocked). test y ≡ false)) h))
  nearest_is ms k n (Some e) apart h =
      sym (first_is (stock_of ms k n) 0 (stocked e) (stock_rises ms k n apart) h.passes (there-sorted e [] (read_by k n ms) h.there)
      (All-sorted (λ (y : Stocked). test y ≡ true → e.lid ≤ y.lid) [] (read_by k n ms) (All-nil (λ (y : Stocked). test y ≡ true → e.lid ≤ y.lid)) h.least))

  pub nearest_at_end : (ms items : List (MaintainerState Record)) (k n i : ℕ) (o : Option (Slot Record)) → items ≡ ms → i ≡ length items → AreApart ms → IsNearest test (read_by k n (take i items)) o
      → option_map stocked o ≡ find test (stock_of ms k n)
  nearest_at_end ms items k n i o same whole apart h =
      let P : List (MaintainerState Record) → Type 0 = λ xs. IsNearest test (read_by k n xs) o in
      nearest_is ms k n o apart (subst P (ap (λ j. take j items) whole ∙ take-length items ∙ same) h)

-- what is at a place is the first above the place before it
pub record IsAtPlace (held : List Stocked) (low p : ℕ) : Type 0 where
  pub past : low < p
  pub is : record_placed held p ≡ option_map (λ (x : Stocked). x.rec) (find (λ (x : Stocked). ltb (p - 1) x.lid) held)

pub at_place : (held : List Stocked) (low p : ℕ) → IsRisingFrom low held → IsSome (record_placed held p) → IsAtPlace held low p
at_place [] low p rising some = absurd (cc)
at_place (y ∷ ys) low p rising some = elim (cases_eq y.lid p) [
  | inl same ↦
      let before : p - 1 < y.lid = omega (arith, same, rising.0) in
      record {
        past = omega (arith, same, rising.0);
        is = ap (option_map (λ (x : Stocked). x.rec)) (cond-true (eqb y.lid p) (Some y) (find (λ (x : Stocked). eqb x.lid p) ys) (eq-eqb y.lid p same)
            ∙ sym (cond-true (ltb (p - 1) y.lid) (Some y) (find (λ (x : Stocked). ltb (p - 1) x.lid) ys) (lt-ltb (p - 1) y.lid before)));
      }
  | inr other ↦
      let on : record_placed (y ∷ ys) p ≡ record_placed ys p = ap (option_map (λ (x : Stocked). x.rec)) (cond-false (eqb y.lid p) (Some y) (find (λ (x : Stocked). eqb x.lid p) ys) (ne_eqb y.lid p other)) in
      let rest : IsAtPlace ys y.lid p = at_place ys y.lid p rising.1 (subst (λ (o : Option Record). IsSome o) on some) in
      let behind : y.lid ≤ p - 1 = omega (arith, rest.past) in
      record {
        past = omega (arith, rising.0, rest.past);
        is = on ∙ rest.is ∙ sym (ap (option_map (λ (x : Stocked). x.rec)) (cond-false (ltb (p - 1) y.lid) (Some y) (find (λ (x : Stocked). ltb (p - 1) x.lid) ys) (le-ltb (p - 1) y.lid behind)));
      }
]

pub not_missing : (held : List Stocked) (p : ℕ) (o : Option (Slot Record)) → IsRisingFrom 0 held → IsSome (record_placed held p) → option_map stocked o ≡ find (λ (x : Stocked). ltb (p - 1) x.lid) held → o ≡ None → ⊥
not_missing held p o rising some next none =
    let is : record_placed held p ≡ None = (at_place held 0 p rising some).is ∙ ap (option_map (λ (x : Stocked). x.rec)) (sym next ∙ ap (option_map stocked) none) in
    let bad : IsSome {T = Record} None = subst (λ (r : Option Record). IsSome r) is some in
    absurd (cc)

pub read_there : (held : List Stocked) (p : ℕ) (o : Option (Slot Record)) (e : Slot Record) → IsRisingFrom 0 held → IsSome (record_placed held p) → option_map stocked o ≡ find (λ (x : Stocked). ltb (p - 1) x.lid) held → o ≡ Some e
    → record_placed held p ≡ Some e.value
read_there held p o e rising some next is =
    (at_place held 0 p rising some).is ∙ ap (option_map (λ (x : Stocked). x.rec)) (sym next ∙ ap (option_map stocked) is)
