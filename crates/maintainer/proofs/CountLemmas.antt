-- How often a position is counted among entries and positions, and what stands at one that is counted.
use Rattle.std.proofs.Common.{◌≡◌, ◌≢◌, ℕ, zero, suc, ◌+◌, ◌-◌, ◌<◌, ◌≤◌, Bool, true, false, cond, ltb, leb, eqb, not, ◌&&◌, List, [], ◌∷◌, ◌++◌, length, get_or, slice_get, Some, None, refl, ap, sym, ◌∙◌, subst, inl, inr, arith}
use Rattle.std.specs.List.{All, Contains, filter, list_any}
use Rattle.std.proofs.lemmas.Bool.{cases_eq, cond-true, cond-false, cond_both, eq-eqb, ne_eqb, and_from, or_cases, or_parts, le-leb, lt-ltb, true≢false, false≢true}
use Rattle.std.proofs.lemmas.List.Elements.{All-nil, All-cons, All-head, All-tail, All-weaker, Contains-get_or, filter_passes}
use Rattle.std.proofs.lemmas.List.Sums.{sum_by-cons, sum_by-append, sum_by_push}
use Rattle.causal_deps.proofs.Lists.{Contains-there, slice_get-append_left}
use Rattle.maintainer.specs.declared.slot.Slot.{Slot}
use Rattle.maintainer.specs.Maintainers.{AreRising, IsEntryOf, times, times_in, value_at}
use Rattle.maintainer.proofs.SlotLemmas.{times_in-none, times_in-some, value_at-none, vacant_none}

-- tests over a list

-- elements that pass have passed
pub All-tested : {X : Type 0} (P : X → Type 0) (test : X → Bool) (xs : List X) → All P xs → All (λ x. P x × (test x ≡ true)) (filter test xs)
All-tested P test [] all = All-nil (λ x. P x × (test x ≡ true))
All-tested P test (x ∷ xs) all = cond_both (test x) (x ∷ filter test xs) (filter test xs) (All (λ y. P y × (test y ≡ true)))
    (λ passes. All-cons (λ y. P y × (test y ≡ true)) x (filter test xs) (All-head P x xs all, passes) (All-tested P test xs (All-tail P x xs all)))
    (λ fails. All-tested P test xs (All-tail P x xs all))

pub passes_all : {X : Type 0} (test : X → Bool) (P : X → Type 0) (xs : List X) → ((x : X) → test x ≡ true → P x) → All P (filter test xs)
passes_all test P xs then = All-weaker (λ x. test x ≡ true) P then (filter test xs) (filter_passes test xs)

-- positions

pub position_counts : (p : ℕ) (ps : List ℕ) → Contains ps p → 1 ≤ times p ps
position_counts p [] (k, within, is) = absurd (omega arith)
position_counts p (q ∷ qs) (zero, within, is) = omega (arith, sum_by-cons (λ (x : ℕ). cond (eqb x p) 1 0) q qs, cond-true {A = ℕ} (eqb q p) 1 0 (eq-eqb q p is))
position_counts p (q ∷ qs) (suc k, within, is) = omega (arith, sum_by-cons (λ (x : ℕ). cond (eqb x p) 1 0) q qs, position_counts p qs (k, omega arith, is))

-- each position of a list counts in it
pub counts_itself : (ps : List ℕ) (k q : ℕ) → k < length ps → 1 ≤ times (get_or ps k q) ps
counts_itself ps k q within = position_counts (get_or ps k q) ps (Contains-get_or ps k q within)

-- what holds of all positions holds of one that is counted
pub position_counted : (P : ℕ → Type 0) (p : ℕ) (ps : List ℕ) → 1 ≤ times p ps → All P ps → P p
position_counted P p [] some all = absurd (omega arith)
position_counted P p (q ∷ qs) some all = elim (cases_eq q p) [
  | inl same ↦ subst P same (All-head P q qs all)
  | inr other ↦ position_counted P p qs (omega (arith, sum_by-cons (λ (x : ℕ). cond (eqb x p) 1 0) q qs, cond-false {A = ℕ} (eqb q p) 1 0 (ne_eqb q p other))) (All-tail P q qs all)
]

-- one that is counted is there
pub position_there : (p : ℕ) (ps : List ℕ) → 1 ≤ times p ps → Contains ps p
position_there p [] some = absurd (omega arith)
position_there p (q ∷ qs) some = elim (cases_eq q p) [
  | inl same ↦ (0, omega arith, same)
  | inr other ↦
      let rest = position_there p qs (omega (arith, sum_by-cons (λ (x : ℕ). cond (eqb x p) 1 0) q qs, cond-false {A = ℕ} (eqb q p) 1 0 (ne_eqb q p other))) in
      (suc rest.0, omega (arith, rest.1), rest.2)
]

-- a test finds a position exactly where it is counted
pub gone_test : (p : ℕ) (ps : List ℕ) → (list_any (λ q. eqb q p) ps ≡ true → 1 ≤ times p ps) × (list_any (λ q. eqb q p) ps ≡ false → times p ps ≡ 0)
gone_test p [] = (λ is. absurd (false≢true is), λ is. refl)
gone_test p (q ∷ qs) =
    let rest = gone_test p qs in
    let sum : times p (q ∷ qs) ≡ cond (eqb q p) 1 0 + times p qs = sum_by-cons (λ (x : ℕ). cond (eqb x p) 1 0) q qs in (
      λ is. elim (or_cases (eqb q p) (list_any (λ x. eqb x p) qs) is) [
        | inl here ↦ omega (arith, sum, cond-true {A = ℕ} (eqb q p) 1 0 here)
        | inr later ↦ omega (arith, sum, rest.0 later)
      ],
      λ is. let both = or_parts (eqb q p) (list_any (λ x. eqb x p) qs) is in omega (arith, sum, cond-false {A = ℕ} (eqb q p) 1 0 both.0, rest.1 both.1),
    )

-- where no position is in a range, none of that range is counted
pub none_counted : (low top p : ℕ) (ps : List ℕ) → list_any (λ q. leb low q && ltb q top) ps ≡ false → low ≤ p → p < top → times p ps ≡ 0
none_counted low top p [] none from to = refl
none_counted low top p (q ∷ qs) none from to =
    let both = or_parts (leb low q && ltb q top) (list_any (λ x. leb low x && ltb x top) qs) none in
    let apart : q ≢ p = λ same. true≢false (sym (and_from (leb low q) (ltb q top) (le-leb low q (omega (arith, same))) (lt-ltb q top (omega (arith, same)))) ∙ both.0) in
    omega (arith, sum_by-cons (λ (x : ℕ). cond (eqb x p) 1 0) q qs, cond-false {A = ℕ} (eqb q p) 1 0 (ne_eqb q p apart), none_counted low top p qs both.1 from to)

module _ {T : Type 0} where
  -- slot e has position p, for a count
  abbrev at_position : ℕ → Slot T → ℕ
  at_position p e = cond (eqb e.lid p) 1 0

  -- entries

  pub times_in-append : (p : ℕ) (es fs : List (Slot T)) → times_in p (es ++ fs) ≡ times_in p es + times_in p fs
  times_in-append p es fs = sum_by-append (at_position p) es fs

  pub times_in-push : (es : List (Slot T)) (e : Slot T) (p : ℕ) → times_in p (es ++ e ∷ []) ≡ times_in p es + cond (eqb e.lid p) 1 0
  times_in-push es e p = sum_by_push (at_position p) es e

  -- an entry that is there is counted
  pub entry_counts : (e : Slot T) (es : List (Slot T)) → Contains es e → 1 ≤ times_in e.lid es
  entry_counts e es has = times_in-some e.lid has.0 e es has.1 (ap (λ (x : Slot T). x.lid) has.2)

  -- and one that is counted is there, and its value stands at its position
  pub entry_shown : (p : ℕ) (es : List (Slot T)) → 1 ≤ times_in p es → (e : Slot T) × Contains es e × (e.lid ≡ p) × (value_at p es ≡ Some e.value)
  entry_shown p [] some = absurd (omega arith)
  entry_shown p (x ∷ xs) some = elim (cases_eq x.lid p) [
    | inl same ↦ (x, (0, omega arith, refl), same, cond-true (eqb x.lid p) (Some x.value) (value_at p xs) (eq-eqb x.lid p same))
    | inr other ↦
        let rest = entry_shown p xs (omega (arith, sum_by-cons (at_position p) x xs, cond-false {A = ℕ} (eqb x.lid p) 1 0 (ne_eqb x.lid p other))) in
        (rest.0, Contains-there x xs rest.0 rest.1, rest.2, cond-false (eqb x.lid p) (Some x.value) (value_at p xs) (ne_eqb x.lid p other) ∙ rest.3)
  ]

  pub entry_there : (p : ℕ) (es : List (Slot T)) → 1 ≤ times_in p es → (e : Slot T) × Contains es e × (e.lid ≡ p)
  entry_there p es some = let at = entry_shown p es some in (at.0, at.1, at.2)

  -- what holds of all entries holds of one that is counted
  pub entry_counted : (P : ℕ → Type 0) (p : ℕ) (es : List (Slot T)) → 1 ≤ times_in p es → All (λ e. P e.lid) es → P p
  entry_counted P p [] some all = absurd (omega arith)
  entry_counted P p (x ∷ xs) some all = elim (cases_eq x.lid p) [
    | inl same ↦ subst P same (All-head (λ (e : Slot T). P e.lid) x xs all)
    | inr other ↦ entry_counted P p xs (omega (arith, sum_by-cons (at_position p) x xs, cond-false {A = ℕ} (eqb x.lid p) 1 0 (ne_eqb x.lid p other))) (All-tail (λ (e : Slot T). P e.lid) x xs all)
  ]

  -- where none is counted nothing stands
  pub value_at-absent : (p : ℕ) (es : List (Slot T)) → times_in p es ≡ 0 → value_at p es ≡ None
  value_at-absent p es none = value_at-none p es (vacant_none p es (λ some. absurd (omega arith)))

  -- entries that pass a test, and those that do not, are all
  pub times_in-split : (p : ℕ) (test : Slot T → Bool) (es : List (Slot T)) → times_in p (filter test es) + times_in p (filter (λ e. not (test e)) es) ≡ times_in p es
  times_in-split p test [] = refl
  times_in-split p test (e ∷ es) =
      let rest : times_in p (filter test es) + times_in p (filter (λ x. not (test x)) es) ≡ times_in p es = times_in-split p test es in
      let f : Slot T → ℕ = at_position p in
      cond_both (test e) (e ∷ filter test es) (filter test es) (λ xs. times_in p xs + times_in p (cond (not (test e)) (e ∷ filter (λ x. not (test x)) es) (filter (λ x. not (test x)) es)) ≡ times_in p (e ∷ es))
      (λ passes. rw passes (omega (arith, rest, sum_by-cons f e es, sum_by-cons f e (filter test es))))
      (λ fails. rw fails (omega (arith, rest, sum_by-cons f e es, sum_by-cons f e (filter (λ x. not (test x)) es))))

  -- entries at p are let go

  others-here : (p : ℕ) (x : Slot T) (xs : List (Slot T)) → x.lid ≡ p → filter (λ e. not (eqb e.lid p)) (x ∷ xs) ≡ filter (λ e. not (eqb e.lid p)) xs
  others-here p x xs same = cond-false (not (eqb x.lid p)) (x ∷ filter (λ e. not (eqb e.lid p)) xs) (filter (λ e. not (eqb e.lid p)) xs) (ap not (eq-eqb x.lid p same))

  others-there : (p : ℕ) (x : Slot T) (xs : List (Slot T)) → (x.lid ≡ p → ⊥) → filter (λ e. not (eqb e.lid p)) (x ∷ xs) ≡ x ∷ filter (λ e. not (eqb e.lid p)) xs
  others-there p x xs other = cond-true (not (eqb x.lid p)) (x ∷ filter (λ e. not (eqb e.lid p)) xs) (filter (λ e. not (eqb e.lid p)) xs) (ap not (ne_eqb x.lid p other))

  pub times_in-others_same : (p : ℕ) (es : List (Slot T)) → times_in p (filter (λ e. not (eqb e.lid p)) es) ≡ 0
  times_in-others_same p es = times_in-none p (filter (λ e. not (eqb e.lid p)) es)
      (passes_all (λ e. not (eqb e.lid p)) (λ (e : Slot T). e.lid ≡ p → ⊥) es (λ e passes same. false≢true (sym (ap not (eq-eqb e.lid p same)) ∙ passes)))

  pub times_in-others : (p q : ℕ) (es : List (Slot T)) → q ≢ p → times_in q (filter (λ e. not (eqb e.lid p)) es) ≡ times_in q es
  times_in-others p q [] apart = refl
  times_in-others p q (x ∷ xs) apart = elim (cases_eq x.lid p) [
    | inl same ↦ omega (
      arith,
      ap (times_in q) (others-here p x xs same),
      times_in-others p q xs apart,
      sum_by-cons (at_position q) x xs,
      cond-false {A = ℕ} (eqb x.lid q) 1 0 (ne_eqb x.lid q (λ is. apart (sym is ∙ same))),
    )
    | inr other ↦ omega (
      arith,
      ap (times_in q) (others-there p x xs other),
      times_in-others p q xs apart,
      sum_by-cons (at_position q) x xs,
      sum_by-cons (at_position q) x (filter (λ e. not (eqb e.lid p)) xs),
    )
  ]

  pub value_at-others : (p q : ℕ) (es : List (Slot T)) → value_at q (filter (λ e. not (eqb e.lid p)) es) ≡ cond (eqb p q) None (value_at q es)
  value_at-others p q [] = cond_both (eqb p q) None None (λ o. None ≡ o) (λ _. refl) (λ _. refl)
  value_at-others p q (x ∷ xs) = elim (cases_eq x.lid p) [
    | inl same ↦ ap (value_at q) (others-here p x xs same) ∙ value_at-others p q xs ∙ elim (cases_eq p q) [
      | inl here ↦ cond-true (eqb p q) None (value_at q xs) (eq-eqb p q here) ∙ sym (cond-true (eqb p q) None (value_at q (x ∷ xs)) (eq-eqb p q here))
      | inr away ↦ ap (λ o. cond (eqb p q) None o) (sym (cond-false (eqb x.lid q) (Some x.value) (value_at q xs) (ne_eqb x.lid q (λ is. away (sym same ∙ is)))))
    ]
    | inr other ↦ ap (value_at q) (others-there p x xs other) ∙ elim (cases_eq x.lid q) [
      | inl here ↦
          cond-true (eqb x.lid q) (Some x.value) (value_at q (filter (λ e. not (eqb e.lid p)) xs)) (eq-eqb x.lid q here)
          ∙ sym (cond-false (eqb p q) None (value_at q (x ∷ xs)) (ne_eqb p q (λ is. other (here ∙ sym is))) ∙ cond-true (eqb x.lid q) (Some x.value) (value_at q xs) (eq-eqb x.lid q here))
      | inr away ↦
          cond-false (eqb x.lid q) (Some x.value) (value_at q (filter (λ e. not (eqb e.lid p)) xs)) (ne_eqb x.lid q away) ∙ value_at-others p q xs
          ∙ ap (λ o. cond (eqb p q) None o) (sym (cond-false (eqb x.lid q) (Some x.value) (value_at q xs) (ne_eqb x.lid q away)))
    ]
  ]

  -- where positions rise, none is counted twice
  pub rising-tail : (x : Slot T) (xs : List (Slot T)) → AreRising (x ∷ xs) → AreRising xs
  rising-tail x xs rising = record { below = λ i j d lt inside. rising.below (suc i) (suc j) d (omega arith) (omega arith) }

  pub times_in-rising : (p : ℕ) (es : List (Slot T)) → AreRising es → times_in p es ≤ 1
  times_in-rising p [] rising = omega arith
  times_in-rising p (x ∷ xs) rising = elim (cases_eq x.lid p) [
    | inl same ↦
        let none : times_in p xs ≡ 0 = times_in-none p xs (λ k d within is. absurd (omega (arith, rising.below 0 (suc k) d (omega arith) (omega arith)))) in
        omega (arith, sum_by-cons (at_position p) x xs, cond-true {A = ℕ} (eqb x.lid p) 1 0 (eq-eqb x.lid p same))
    | inr other ↦ omega (arith, sum_by-cons (at_position p) x xs, cond-false {A = ℕ} (eqb x.lid p) 1 0 (ne_eqb x.lid p other), times_in-rising p xs (rising-tail x xs rising))
  ]

  -- entries of a log

  pub entry_stays : (log : List T) (r : T) (e : Slot T) → IsEntryOf log e → IsEntryOf (log ++ r ∷ []) e
  entry_stays log r e h = record { first = h.first; stands = slice_get-append_left log (r ∷ []) (e.lid - 1) e.value h.stands }

  -- where the entries are those of a log, what stands at a position that is counted is what the log has there
  pub value_at-log : (log : List T) (p : ℕ) (es : List (Slot T)) → 1 ≤ times_in p es → All (IsEntryOf log) es → value_at p es ≡ slice_get log (p - 1)
  value_at-log log p [] some all = absurd (omega arith)
  value_at-log log p (x ∷ xs) some all = elim (cases_eq x.lid p) [
    | inl same ↦ cond-true (eqb x.lid p) (Some x.value) (value_at p xs) (eq-eqb x.lid p same) ∙ sym (All-head (IsEntryOf log) x xs all).stands ∙ ap (λ q. slice_get log (q - 1)) same
    | inr other ↦
        cond-false (eqb x.lid p) (Some x.value) (value_at p xs) (ne_eqb x.lid p other)
        ∙ value_at-log log p xs (omega (arith, sum_by-cons (at_position p) x xs, cond-false {A = ℕ} (eqb x.lid p) 1 0 (ne_eqb x.lid p other))) (All-tail (IsEntryOf log) x xs all)
  ]
