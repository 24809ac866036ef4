-- The held records that follow on one that passes, and the filter afterwards.
use Rattle.std.proofs.Common.{◌≡◌, ◌↔◌, ℕ, zero, suc, ◌+◌, ◌<◌, ◌≤◌, Bool, true, false, cond, not, ◌&&◌, ◌||◌, List, [], ◌∷◌, ◌++◌, length, map, filter, take, drop, get_or, refl, ap, ap₂, sym, ◌∙◌, subst, inl, inr, arith, add-one, Some, None, slice_get, Contains, append-nil, append_assoc}
use Rattle.std.specs.List.{All, AllPairs}
use Rattle.std.specs.Bool.{IsTrue}
use Rattle.std.proofs.Math.Seq.{drop-cons}
use Rattle.std.proofs.lemmas.Bool.{cases_eq, cases_lt, or_cases, or_parts, or_left, or_right, not-true, not_from_true, not_from_false, true≢false, eq-eqb, eqb-true, false_from_ne_true}
use Rattle.std.proofs.lemmas.List.{length-drop, get_or-drop, take-append-drop, drop-drop}
use Rattle.std.proofs.lemmas.List.Elements.{All-nil, All-head, All-weaker, All-more, All-contains, filter-append, Contains-append_cases, Contains-append_left}
use Rattle.std.proofs.lemmas.List.Kept.{AllPairs-filter}
use Rattle.causal_deps.specs.declared.record.Record.{Record}
use Rattle.causal_deps.specs.declared.record.Item.{Item}
use Rattle.causal_deps.specs.declared.record.Item.TheVariants.{External}
use Rattle.causal_deps.specs.Counts.{raised}
use Rattle.causal_deps.proofs.Lists.{Contains-cons, Contains-filter}
use Rattle.toid_filter.specs.declared.filter.Verdict.TheVariants.{Passed, Held}
use Rattle.toid_filter.specs.Champions.{champion, Serves}
use Rattle.toid_filter.specs.Filters.{FilterState, owns, is_passed, is_held, is_known, all_below, is_done, is_met, is_held_back, is_free, is_due, due, not_due, reached_by, stands_before, before_name, from_name, named, with_held, IsTaken, FitsFilter, Follows, IsSteady, IsSound}
use Rattle.toid_filter.proofs.Tests.{all_below_from, settled_gives, settled_from, before_parts, not_before, all_from_contains, pairs_parts}
use Rattle.toid_filter.proofs.FilterLemmas.{passed_parts, passed_from, held_parts, held_from, due_parts, due_from, free_parts, met_gives, done_met, due_below, with_gives, with_keeps, with_has, met_more, due_before, taken_steady, steady_sound}
use Rattle.toid_filter.proofs.HeldLemmas.{Rising, filter_all, filter_none, two_parts, first_named, first_after, still_from, next_left}
use Rattle.toid_filter.proofs.Reached.{raised_length}

-- what was not passed is known if it is held
pub known_above : (f : FilterState) (h t : ℕ) → get_or f.reached h 0 < t → is_held f h t ≡ is_known f h t
known_above f h t low =
    let unpassed : is_passed f h t ≡ false = false_from_ne_true (is_passed f h t) (λ is. absurd (omega (arith, (passed_parts f h t is).1))) in
    sym (ap (λ b. b || is_held f h t) unpassed)

pub known_below : (f : FilterState) (h t : ℕ) → 1 ≤ t → owns f h t ≡ true → t ≤ get_or f.reached h 0 → is_known f h t ≡ true
known_below f h t some own low = or_left (is_passed f h t) (is_held f h t) (passed_from f h t some low own)

-- an own number that was not passed is above the greatest that was
pub above_reached : (f : FilterState) (r : Record) → FitsFilter f r → is_passed f r.host r.toid ≡ false → get_or f.reached r.host 0 < r.toid
above_reached f r fits new = elim (cases_lt (get_or f.reached r.host 0) r.toid) [
  | inl low ↦ low
  | inr high ↦ absurd (true≢false (sym (passed_from f r.host r.toid fits.first high (eq-eqb (champion f.map r.host r.toid) f.number fits.own)) ∙ new))
]

-- Whether a record may pass, by whether an own number lies between.
pub free_open : (f : FilterState) (r : Record) (waits : Bool) → (IsTrue waits ↔ Serves f.map f.number r.host (get_or f.reached r.host 0 + 1) r.toid) → waits ≡ false → not (is_held_back f.accepted r.host r.toid) ≡ is_free f r
free_open f r waits tells clear =
    let done : all_below (is_done f r.host) r.toid ≡ true = all_below_from (is_done f r.host) r.toid (λ u low. settled_from u (owns f r.host u) (is_passed f r.host u) (λ some own. elim (cases_lt (get_or f.reached r.host 0) u) [
      | inr passed ↦ passed_from f r.host u some passed own
      | inl above ↦ absurd (true≢false (sym (tells.1 (u, omega arith, low, eqb-true (champion f.map r.host u) f.number own)) ∙ clear))
    ])) in
    sym (ap (λ b. b && not (is_held_back f.accepted r.host r.toid)) done)

pub free_shut : (f : FilterState) (r : Record) (waits : Bool) → (IsTrue waits ↔ Serves f.map f.number r.host (get_or f.reached r.host 0 + 1) r.toid) → waits ≡ true → false ≡ is_free f r
free_shut f r waits tells shut =
    let between = tells.0 shut in
    sym (false_from_ne_true (is_free f r) (λ free.
    let done = (free_parts f r free).0 between.0 between.2 in
    let passed = settled_gives between.0 (owns f r.host between.0) (is_passed f r.host between.0) done (omega (arith, between.1)) (eq-eqb (champion f.map r.host between.0) f.number between.3) in
    absurd (omega (arith, between.1, (passed_parts f r.host between.0 passed).1))))

pairs_drop : (R : Record → Record → Type 0) (n : ℕ) (xs : List Record) → AllPairs R xs → AllPairs R (drop n xs)
pairs_drop R zero xs all = all
pairs_drop R (suc n) [] all = λ i j d before within. absurd (omega arith)
pairs_drop R (suc n) (x ∷ xs) all = pairs_drop R n xs (pairs_parts R x xs all).1

-- What holds while the records that follow on one are counted: so many are due, and each own number up to the last is met.
pub record IsRunning (g : FilterState) (h first : ℕ) (back : List Record) (count last : ℕ) : Type 0 where
  pub due : All (λ q. is_due g q ≡ true) (take count back)
  pub met : (u : ℕ) → u < last + 1 → is_met g h u ≡ true
  pub least : first ≤ last
  pub below : All (λ q. q.toid ≤ last) (take count back)
  pub above : All (λ q. q.host ≡ h → last < q.toid) (drop count back)

module _ (f : FilterState) (r : Record) (steady : IsSteady f) (fits : FitsFilter f r) (new : is_known f r.host r.toid ≡ false) (free : is_free f r ≡ true) where
  abbrev g : FilterState
  g = with_held f r

  abbrev front : List Record
  front = before_name r.host r.toid f.held

  abbrev back : List Record
  back = from_name r.host r.toid f.held

  whole : f.held ≡ front ++ back
  whole = two_parts r.host r.toid f.held steady.tidy.rising

  in_back : (q : Record) → Contains back q → Contains f.held q
  in_back q has = (Contains-filter (λ x. not (stands_before r.host r.toid x)) f.held q has).0

  back_after : (q : Record) → Contains back q → stands_before r.host r.toid q ≡ false
  back_after q has = not-true (stands_before r.host r.toid q) (Contains-filter (λ x. not (stands_before r.host r.toid x)) f.held q has).1

  back_rising : Rising back
  back_rising = AllPairs-filter (λ (q s : Record). stands_before s.host s.toid q ≡ true) (λ x. not (stands_before r.host r.toid x)) f.held steady.tidy.rising

  front_before : All (λ q. stands_before r.host r.toid q ≡ true) front
  front_before = all_from_contains (λ q. stands_before r.host r.toid q ≡ true) front (λ q has. (Contains-filter (stands_before r.host r.toid) f.held q has).1)

  unpassed : is_passed f r.host r.toid ≡ false
  unpassed = (or_parts (is_passed f r.host r.toid) (is_held f r.host r.toid) new).0

  back_named : (q : Record) → Contains back q → q.host ≡ r.host → r.toid < q.toid
  back_named q has host = elim (not_before r.host r.toid q (back_after q has)) [
    | inl more ↦ absurd (omega (arith, host))
    | inr same ↦ elim (cases_lt r.toid q.toid) [
      | inl low ↦ low
      | inr high ↦ absurd (true≢false (sym (held_from f r.host r.toid q (in_back q has) host (omega (arith, same.1))) ∙ (or_parts (is_passed f r.host r.toid) (is_held f r.host r.toid) new).1))
    ]
  ]

  met_with : (u : ℕ) → u < r.toid + 1 → is_met g r.host u ≡ true
  met_with u low = elim (cases_lt u r.toid) [
    | inl under ↦ met_more f r r.host u (done_met f r.host u ((free_parts f r free).0 u under))
    | inr high ↦ settled_from u (owns g r.host u) (is_known g r.host u) (λ some own. or_right (is_passed g r.host u) (is_held g r.host u) (held_from g r.host u r (with_has f r) refl (omega arith)))
  ]

  pub running_start : IsRunning g r.host r.toid back 0 r.toid
  running_start = record {
    due = All-nil (λ q. is_due g q ≡ true);
    met = met_with;
    least = omega arith;
    below = All-nil (λ (q : Record). q.toid ≤ r.toid);
    above = all_from_contains (λ (q : Record). q.host ≡ r.host → r.toid < q.toid) back back_named;
  }

  module _ (count last : ℕ) (now : IsRunning g r.host r.toid back count last) (within : count < length back) (next : Record) (is_next : get_or back count next ≡ next) where
    parted : drop count back ≡ next ∷ drop (count + 1) back
    parted = drop-cons back count next within ∙ ap (λ x. x ∷ drop (suc count) back) is_next ∙ ap (λ n. next ∷ drop n back) (sym (add-one count))

    next_in : Contains back next
    next_in = (count, within, is_next)

    after_next : All (λ (q : Record). stands_before q.host q.toid next ≡ true) (drop (count + 1) back)
    after_next = (pairs_parts (λ (q s : Record). stands_before s.host s.toid q ≡ true) next (drop (count + 1) back)
        (subst (λ xs. Rising xs) parted (pairs_drop (λ (q s : Record). stands_before s.host s.toid q ≡ true) count back back_rising))).0

    next_above : next.host ≡ r.host → last < next.toid
    next_above = All-head (λ (q : Record). q.host ≡ r.host → last < q.toid) next (drop (count + 1) back) (subst (All (λ (q : Record). q.host ≡ r.host → last < q.toid)) parted now.above)

    pub running_step : Follows f next r.host last → IsRunning g r.host r.toid back (count + 1) next.toid
    running_step follows =
        let next_met : (u : ℕ) → u < next.toid → is_met g r.host u ≡ true = λ u low. elim (cases_lt u (last + 1)) [
          | inl under ↦ now.met u under
          | inr over ↦ settled_from u (owns g r.host u) (is_known g r.host u) (λ some own. absurd (follows.next (u, over, low, eqb-true (champion f.map r.host u) f.number own)))
        ] in record {
          due = All-more (λ q. is_due g q ≡ true) back count next within now.due (subst (λ q. is_due g q ≡ true) (sym is_next)
              (due_from g next (λ u low. subst (λ h. is_met g h u ≡ true) (sym follows.host) (next_met u low)) (ap (λ h. is_held_back f.accepted h next.toid) follows.host ∙ follows.unmarked)));
          met = λ u low. elim (cases_lt u next.toid) [
            | inl under ↦ next_met u under
            | inr high ↦ settled_from u (owns g r.host u) (is_known g r.host u) (λ some own. or_right (is_passed g r.host u) (is_held g r.host u) (held_from g r.host u next (with_keeps f r next (in_back next next_in)) follows.host (omega arith)))
          ];
          least = omega (arith, now.least, follows.later);
          below = All-more (λ (q : Record). q.toid ≤ next.toid) back count next within (λ k d deep. let low = now.below k d deep in omega (arith, low, follows.later)) (omega (arith, ap (λ (q : Record). q.toid) is_next));
          above = λ k d deep host. elim (before_parts (get_or (drop (count + 1) back) k d).host (get_or (drop (count + 1) back) k d).toid next (after_next k d deep)) [
            | inl low ↦ absurd (omega (arith, host, follows.host))
            | inr same ↦ same.1
          ];
        }

    -- nothing between the last and the next is known
    between_unknown : next.host ≡ r.host → (u : ℕ) → last < u → u < next.toid → is_known g r.host u ≡ true → ⊥
    between_unknown host u over under known = elim (or_cases (is_passed g r.host u) (is_held g r.host u) known) [
      | inl passed ↦ absurd (omega (arith, (passed_parts g r.host u passed).1, above_reached f r fits unpassed, now.least))
      | inr held ↦
          let found = held_parts g r.host u held in
          elim (with_gives f r found.0 found.1) [
            | inl same ↦ absurd (omega (arith, ap (λ (q : Record). q.toid) same, found.3, now.least))
            | inr old ↦ elim (Contains-append_cases front back found.0 (subst (λ xs. Contains xs found.0) whole old)) [
              | inl early ↦ elim (before_parts r.host r.toid found.0 (All-contains (λ q. stands_before r.host r.toid q ≡ true) front found.0 front_before early)) [
                | inl low ↦ absurd (omega (arith, found.2))
                | inr also ↦ absurd (omega (arith, also.1, found.3, now.least))
              ]
              | inr late ↦ elim (Contains-append_cases (take count back) (drop count back) found.0 (subst (λ xs. Contains xs found.0) (sym (take-append-drop count back)) late)) [
                | inl counted ↦ absurd (omega (arith, All-contains (λ (q : Record). q.toid ≤ last) (take count back) found.0 now.below counted, found.3))
                | inr rest ↦ elim (Contains-cons next (drop (count + 1) back) found.0 (subst (λ xs. Contains xs found.0) parted rest)) [
                  | inl here ↦ absurd (omega (arith, ap (λ (q : Record). q.toid) here, found.3))
                  | inr there ↦ elim (before_parts found.0.host found.0.toid next (All-contains (λ (q : Record). stands_before q.host q.toid next ≡ true) (drop (count + 1) back) found.0 after_next there)) [
                    | inl low ↦ absurd (omega (arith, host, found.2))
                    | inr also ↦ absurd (omega (arith, also.1, found.3))
                  ]
                ]
              ]
            ]
          ]
    ]

    -- the next one follows if it is due
    due_follows : next.host ≡ r.host → is_due g next ≡ true → Follows f next r.host last
    due_follows host is =
        let parts = due_parts g next is in record {
          host = host;
          later = next_above host;
          next = λ (u, over, under, own). between_unknown host u (omega arith) under
              (met_gives g r.host u (subst (λ h. is_met g h u ≡ true) host (parts.0 u under)) (omega arith) (eq-eqb (champion f.map r.host u) f.number own));
          unmarked = sym (ap (λ h. is_held_back f.accepted h next.toid) host) ∙ parts.1;
        }

    -- where it does not follow, none from it on is due
    pub running_stop : (Follows f next r.host last → ⊥) → All (λ q. is_due g q ≡ false) (drop count back)
    running_stop stops = all_from_contains (λ q. is_due g q ≡ false) (drop count back) (λ q has. false_from_ne_true (is_due g q) (λ is. elim (cases_eq r.host q.host) [
      | inr apart ↦ true≢false (sym (due_before f r q (λ both. apart both.0) is) ∙ All-contains (λ x. is_due f x ≡ false) f.held q steady.none_due (in_back q (drop_in count back q has)))
      | inl same ↦ let least = next_least q has same in absurd (stops (due_follows least.0 (due_below g q next is (least.0 ∙ same) least.1)))
    ]))
      where
        drop_in : (n : ℕ) (xs : List Record) (q : Record) → Contains (drop n xs) q → Contains xs q
        drop_in n xs q (k, deep, is) = (n + k, omega (arith, length-drop n xs), sym (get_or-drop n xs k q) ∙ is)

        next_least : (q : Record) → Contains (drop count back) q → r.host ≡ q.host → (next.host ≡ r.host) × (next.toid ≤ q.toid)
        next_least q has same = elim (Contains-cons next (drop (count + 1) back) q (subst (λ xs. Contains xs q) parted has)) [
          | inl here ↦ (ap (λ (x : Record). x.host) here ∙ sym same, omega (arith, ap (λ (x : Record). x.toid) here))
          | inr there ↦ elim (before_parts q.host q.toid next (All-contains (λ (x : Record). stands_before x.host x.toid next ≡ true) (drop (count + 1) back) q after_next there)) [
            | inr also ↦ (also.0 ∙ sym same, omega (arith, also.1))
            | inl low ↦ elim (not_before r.host r.toid next (back_after next next_in)) [
              | inl more ↦ absurd (omega (arith, same))
              | inr also ↦ absurd (omega (arith, same, also.0))
            ]
          ]
        ]

  -- what passes, and what stays, where so many records are due and those after them are not
  module _ (count : ℕ) (run_due : All (λ q. is_due g q ≡ true) (take count back)) (rest_not : All (λ q. is_due g q ≡ false) (drop count back)) where
    abbrev run : List Record
    run = take count back

    abbrev rest : List Record
    rest = drop count back

    held_is : g.held ≡ front ++ r ∷ (run ++ rest)
    held_is = ap (λ ys. front ++ r ∷ ys) (sym (take-append-drop count back))

    front_not : All (λ q. is_due g q ≡ false) front
    front_not = all_from_contains (λ q. is_due g q ≡ false) front (λ q has. false_from_ne_true (is_due g q) (λ is.
        true≢false (sym (due_before f r q (λ both. elim (before_parts r.host r.toid q (All-contains (λ x. stands_before r.host r.toid x ≡ true) front q front_before has)) [
          | inl low ↦ absurd (omega (arith, both.0))
          | inr same ↦ absurd (omega (arith, same.1, both.1))
        ]) is) ∙ All-contains (λ x. is_due f x ≡ false) f.held q steady.none_due (subst (λ xs. Contains xs q) (sym whole) (in_front q has)))))
      where
        in_front : (q : Record) → Contains front q → Contains (front ++ back) q
        in_front q has = Contains-append_left front back q has

    r_due : is_due g r ≡ true
    r_due = due_from g r (λ u low. met_with u (omega arith)) (free_parts f r free).1

    pub due_is_run : due g ≡ r ∷ run
    due_is_run = ap (filter (is_due g)) held_is ∙ filter-append (is_due g) front (r ∷ (run ++ rest))
        ∙ ap₂ (λ xs ys. xs ++ ys) (filter_none (is_due g) front front_not)
        (ap (λ b. cond b (r ∷ filter (is_due g) (run ++ rest)) (filter (is_due g) (run ++ rest))) r_due
        ∙ ap (λ xs. r ∷ xs) (filter-append (is_due g) run (rest) ∙ ap₂ (λ xs ys. xs ++ ys) (filter_all (is_due g) run run_due) (filter_none (is_due g) (rest) rest_not) ∙ append-nil run))

    pub not_due_is_rest : not_due g ≡ front ++ rest
    not_due_is_rest = ap (filter (λ q. not (is_due g q))) held_is ∙ filter-append (λ q. not (is_due g q)) front (r ∷ (run ++ rest))
        ∙ ap₂ (λ xs ys. xs ++ ys) (filter_all (λ q. not (is_due g q)) front (λ k d deep. not_from_false (is_due g (get_or front k d)) (front_not k d deep)))
        (ap (λ b. cond (not b) (r ∷ filter (λ q. not (is_due g q)) (run ++ rest)) (filter (λ q. not (is_due g q)) (run ++ rest))) r_due
        ∙ filter-append (λ q. not (is_due g q)) run (rest)
        ∙ ap₂ (λ xs ys. xs ++ ys) (filter_none (λ q. not (is_due g q)) run (λ k d deep. not_from_true (is_due g (get_or run k d)) (run_due k d deep)))
        (filter_all (λ q. not (is_due g q)) (rest) (λ k d deep. not_from_false (is_due g (get_or (rest) k d)) (rest_not k d deep))))

    pub passing_is : IsTaken f r Passed (record f { reached = reached_by (raised f.reached r.host r.toid) run; held = front ++ rest; out = (f.out ++ External r ∷ []) ++ map External run })
    passing_is = (
      new,
      free,
      same_parts
          (sym (ap (reached_by f.reached) due_is_run))
          (sym not_due_is_rest)
          (append_assoc f.out (External r ∷ []) (map External run) ∙ sym (ap (λ ds. f.out ++ map External ds) due_is_run)),
    )
      where
        same_parts : {a b : List ℕ} {x y : List Record} {s t : List Item} → a ≡ b → x ≡ y → s ≡ t → record f { reached = a; held = x; out = s } ≡ record f { reached = b; held = y; out = t }
        same_parts e1 e2 e3 = λ i. record f { reached = e1 i; held = e2 i; out = e3 i }

-- The code's parts. A loop has gone so far over the records from the new one on, which are shown under their names.
pub record IsWalking (f : FilterState) (r : Record) (left : List ((ℕ × ℕ) × Record)) (count last : ℕ) : Type 0 where
  pub shown : left ≡ map named (drop count (from_name r.host r.toid f.held))
  pub within : count ≤ length (from_name r.host r.toid f.held)
  pub running : IsRunning (with_held f r) r.host r.toid (from_name r.host r.toid f.held) count last

module _ (f : FilterState) (r : Record) (steady : IsSteady f) (fits : FitsFilter f r) (new : is_known f r.host r.toid ≡ false) (free : is_free f r ≡ true) where
  abbrev behind : List Record
  behind = from_name r.host r.toid f.held

  pub walk_starts : (left : List ((ℕ × ℕ) × Record)) → left ≡ map named behind → IsWalking f r left 0 r.toid
  walk_starts left is = record { shown = is; within = omega arith; running = running_start f r steady fits new free }

  module _ (left : List ((ℕ × ℕ) × Record)) (count last : ℕ) (now : IsWalking f r left count last) (next : (ℕ × ℕ) × Record) (others : List ((ℕ × ℕ) × Record)) (is_next : left ≡ next ∷ others) where
    first_is : (slice_get (drop count behind) 0 ≡ Some next.1) × (next ≡ named next.1) × (others ≡ map named (drop 1 (drop count behind)))
    first_is = first_named (drop count behind) next others (sym now.shown ∙ is_next)

    at_it : (count < length behind) × (get_or behind count next.1 ≡ next.1) × (take (count + 1) behind ≡ take count behind ++ next.1 ∷ [])
    at_it = first_after count behind next.1 first_is.0

    pub walk_within : count < length behind
    walk_within = at_it.0

    pub walk_goes : Follows f next.1 r.host last → IsWalking f r others (count + 1) next.1.toid
    walk_goes follows = record {
      shown = first_is.2 ∙ ap (map named) (drop-drop 1 count behind);
      within = omega (arith, at_it.0);
      running = running_step f r steady fits new free count last now.running at_it.0 next.1 at_it.1 follows;
    }

    pub walk_stops : (Follows f next.1 r.host last → ⊥) → All (λ q. is_due (with_held f r) q ≡ false) (drop count behind)
    walk_stops stops = running_stop f r steady fits new free count last now.running at_it.0 next.1 at_it.1 stops

-- A loop has taken out so many of the records from a name on, and passed them.
pub record IsMoving (h t : ℕ) (held : List Record) (reached : List ℕ) (out : List Item) (count : ℕ) (held_now : List Record) (reached_now : List ℕ) (out_now : List Item) : Type 0 where
  pub kept : held_now ≡ before_name h t held ++ drop count (from_name h t held)
  pub raised : reached_now ≡ reached_by reached (take count (from_name h t held))
  pub moved : out_now ≡ out ++ map External (take count (from_name h t held))

reached_push : (reached : List ℕ) (rs : List Record) (r : Record) → reached_by reached (rs ++ r ∷ []) ≡ raised (reached_by reached rs) r.host r.toid
reached_push reached [] r = refl
reached_push reached (q ∷ rs) r = reached_push (raised reached q.host q.toid) rs r

map_push : (rs : List Record) (r : Record) → map External (rs ++ r ∷ []) ≡ map External rs ++ External r ∷ []
map_push [] r = refl
map_push (q ∷ rs) r = ap (λ xs. External q ∷ xs) (map_push rs r)

module _ (h t : ℕ) (held : List Record) (reached : List ℕ) (out : List Item) where
  pub move_starts : Rising held → IsMoving h t held reached out 0 held reached out
  move_starts rising = record { kept = two_parts h t held rising; raised = refl; moved = sym (append-nil out) }

  module _ (count : ℕ) (held_now : List Record) (reached_now : List ℕ) (out_now : List Item) (now : IsMoving h t held reached out count held_now reached_now out_now) where
    left_is : from_name h t held_now ≡ drop count (from_name h t held)
    left_is = ap (from_name h t) now.kept ∙ still_from h t held count

    pub move_goes : (r : Record) (held_next : List Record) → Some r ≡ slice_get (from_name h t held_now) 0 → held_next ≡ before_name h t held_now ++ drop 1 (from_name h t held_now)
        → IsMoving h t held reached out (count + 1) held_next (raised reached_now r.host r.toid) (out_now ++ External r ∷ [])
    move_goes r held_next is next_is =
        let first = first_after count (from_name h t held) r (ap (λ xs. slice_get xs 0) (sym left_is) ∙ sym is) in record {
          kept = next_is ∙ ap (λ xs. before_name h t xs ++ drop 1 (from_name h t xs)) now.kept ∙ next_left h t held count;
          raised = ap (λ xs. raised xs r.host r.toid) now.raised ∙ sym (reached_push reached (take count (from_name h t held)) r) ∙ ap (reached_by reached) (sym first.2);
          moved = ap (λ xs. xs ++ External r ∷ []) now.moved ∙ append_assoc out (map External (take count (from_name h t held))) (External r ∷ [])
              ∙ ap (λ xs. out ++ xs) (sym (map_push (take count (from_name h t held)) r) ∙ ap (map External) (sym first.2));
        }

    pub move_next : (r : Record) (held_next : List Record) (reached_next : List ℕ) (out_next : List Item) → Some r ≡ slice_get (from_name h t held_now) 0 → held_next ≡ before_name h t held_now ++ drop 1 (from_name h t held_now)
        → reached_next ≡ raised reached_now r.host r.toid → out_next ≡ out_now ++ External r ∷ [] → IsMoving h t held reached out (count + 1) held_next reached_next out_next
    move_next r held_next reached_next out_next is next_is raised_is out_is =
        let goes = move_goes r held_next is next_is in record { kept = goes.kept; raised = raised_is ∙ goes.raised; moved = out_is ∙ goes.moved }

    -- there is one more
    pub move_has : count < length (from_name h t held) → None ≡ slice_get (from_name h t held_now) 0 → ⊥
    move_has within is = none_first (from_name h t held_now) (sym is) (omega (arith, ap (length {A = Record}) left_is, length-drop count (from_name h t held)))
      where
        none_first : (xs : List Record) → slice_get xs 0 ≡ None → 1 ≤ length xs → ⊥
        none_first [] is some = absurd (omega arith)
        none_first (x ∷ xs) is some = absurd (cc)

    -- what stands first has the host of a record held before
    pub move_host : (r : Record) (n : ℕ) → All (λ q. q.host < n) held → Some r ≡ slice_get (from_name h t held_now) 0 → r.host < n
    move_host r n hosts is =
        let first = first_after count (from_name h t held) r (ap (λ xs. slice_get xs 0) (sym left_is) ∙ sym is) in
        let has : Contains (from_name h t held) r = (count, first.0, first.1) in
        All-contains (λ (q : Record). q.host < n) held r hosts (Contains-filter (λ q. not (stands_before h t q)) held r has).0

-- the same filter, seen whole and by its parts
pub behind_same : (v f : FilterState) (r : Record) (count : ℕ) → v ≡ f → count ≤ length (from_name r.host r.toid f.held) → count ≤ length (from_name r.host r.toid v.held)
behind_same v f r count same within = omega (arith, ap (λ (w : FilterState). length (from_name r.host r.toid w.held)) same)

pub unheld_same : (v f : FilterState) (h t : ℕ) → v ≡ f → is_known f h t ≡ false → is_held v h t ≡ false
unheld_same v f h t same new = ap (λ (w : FilterState). is_held w h t) same ∙ (or_parts (is_passed f h t) (is_held f h t) new).1

-- a record that may not pass is held at its place
pub hold_taken : (v f : FilterState) (r : Record) (held : List Record) → v ≡ f → IsSteady v → FitsFilter f r → is_known f r.host r.toid ≡ false → is_free f r ≡ false
    → held ≡ before_name r.host r.toid v.held ++ r ∷ from_name r.host r.toid v.held → IsTaken f r Held (record v { held = held }) × IsSteady (record v { held = held })
hold_taken v f r held same steady fits new unfree is =
    let f_steady : IsSteady f = subst IsSteady same steady in
    let state : record v { held = held } ≡ with_held f r = (λ i. record (same i) { held = both i }) in
    let took : IsTaken f r Held (record v { held = held }) = (new, unfree, state) in
    (took, taken_steady f r Held (record v { held = held }) f_steady fits took)
  where
    both : held ≡ (with_held f r).held
    both = is ∙ ap (λ (w : FilterState). before_name r.host r.toid w.held ++ r ∷ from_name r.host r.toid w.held) same

-- a record that may pass passes, with those that follow
pub pass_taken : (v f : FilterState) (r : Record) (count : ℕ) (first reached : List ℕ) (held : List Record) (early out : List Item) → v ≡ f → IsSteady v → FitsFilter f r → is_known f r.host r.toid ≡ false → is_free f r ≡ true
    → All (λ q. is_due (with_held f r) q ≡ true) (take count (from_name r.host r.toid f.held)) → All (λ q. is_due (with_held f r) q ≡ false) (drop count (from_name r.host r.toid f.held))
    → first ≡ raised v.reached r.host r.toid → reached ≡ reached_by first (take count (from_name r.host r.toid v.held))
    → held ≡ before_name r.host r.toid v.held ++ drop count (from_name r.host r.toid v.held)
    → early ≡ v.out ++ External r ∷ [] → out ≡ early ++ map External (take count (from_name r.host r.toid v.held))
    → IsTaken f r Passed (record v { reached = reached; held = held; out = out }) × IsSteady (record v { reached = reached; held = held; out = out })
pass_taken v f r count first reached held early out same steady fits new free run_due rest_not at_first at_reached at_held at_early at_out =
    let f_steady : IsSteady f = subst IsSteady same steady in
    let model = passing_is f r f_steady fits new free count run_due rest_not in
    let took : IsTaken f r Passed (record v { reached = reached; held = held; out = out }) = (new, free, state ∙ model.2) in
    (took, taken_steady f r Passed (record v { reached = reached; held = held; out = out }) f_steady fits took)
  where
    reached_is : reached ≡ reached_by (raised f.reached r.host r.toid) (take count (from_name r.host r.toid f.held))
    reached_is = at_reached ∙ ap (λ xs. reached_by xs (take count (from_name r.host r.toid v.held))) at_first
        ∙ ap (λ (w : FilterState). reached_by (raised w.reached r.host r.toid) (take count (from_name r.host r.toid w.held))) same

    held_is : held ≡ before_name r.host r.toid f.held ++ drop count (from_name r.host r.toid f.held)
    held_is = at_held ∙ ap (λ (w : FilterState). before_name r.host r.toid w.held ++ drop count (from_name r.host r.toid w.held)) same

    out_is : out ≡ (f.out ++ External r ∷ []) ++ map External (take count (from_name r.host r.toid f.held))
    out_is = at_out ∙ ap (λ xs. xs ++ map External (take count (from_name r.host r.toid v.held))) at_early
        ∙ ap (λ (w : FilterState). (w.out ++ External r ∷ []) ++ map External (take count (from_name r.host r.toid w.held))) same

    state : record v { reached = reached; held = held; out = out } ≡ record f { reached = reached_by (raised f.reached r.host r.toid) (take count (from_name r.host r.toid f.held)); held = before_name r.host r.toid f.held ++ drop count (from_name r.host r.toid f.held); out = (f.out ++ External r ∷ []) ++ map External (take count (from_name r.host r.toid f.held)) }
    state = λ i. record (same i) { reached = reached_is i; held = held_is i; out = out_is i }

-- the hosts of held records are those of the map
pub hosts_fit : (f : FilterState) (reached : List ℕ) (h t : ℕ) → IsSteady f → reached ≡ raised f.reached h t → All (λ q. q.host < length reached) f.held
hosts_fit f reached h t steady at_reached = All-weaker (FitsFilter f) (λ (q : Record). q.host < length reached) (λ q was. omega (arith, was.host, steady.tidy.width, ap length at_reached, raised_length f.reached h t)) f.held steady.tidy.fits

-- the same filter with an equal held list
pub sound_held : (f : FilterState) (held : List Record) → held ≡ f.held → IsSteady f → IsSound (record f { held = held })
sound_held f held is steady = subst (λ xs. IsSound (record f { held = xs })) (sym is) (steady_sound f steady)

-- whether an own number lies between, by the parts that the code reads
pub waits_is : (v f : FilterState) (h t first : ℕ) (waits : Bool) → v ≡ f → first ≡ get_or v.reached h 0 → (IsTrue waits ↔ Serves v.map v.number h (first + 1) t) → IsTrue waits ↔ Serves f.map f.number h (get_or f.reached h 0 + 1) t
waits_is v f h t first waits same is tells = subst (λ (w : FilterState). IsTrue waits ↔ Serves w.map w.number h (get_or w.reached h 0 + 1) t) same (subst (λ n. IsTrue waits ↔ Serves v.map v.number h (n + 1) t) is tells)
