-- A filter that lets go what no mark holds back any more: what is due is all of one host, and it goes as if the first of it were taken
-- once more. The theorems are `next_released`, where the next own number is held, and `none_released`, where it is not.
use Rattle.std.proofs.Common.{◌≡◌, ◌≢◌, ◌⊎◌, ℕ, ◌+◌, ◌<◌, ◌≤◌, true, false, not, ◌||◌, List, [], ◌∷◌, ◌++◌, length, map, filter, take, drop, get_or, refl, ap, ap₂, sym, ◌∙◌, subst, inl, inr, arith, Some, None, slice_get, Contains, append-nil, length-append, leb, eqb, ◌&&◌}
use Rattle.std.specs.List.{All}
use Rattle.std.proofs.lemmas.Bool.{cases_eq, cases_lt, or_cases, or_left, or_right, not-true, not_from_true, not_from_false, true≢false, eq-eqb, eqb-true, ne_eqb, false_from_ne_true}
use Rattle.std.proofs.lemmas.List.Elements.{All-contains, All-weaker, filter-append, Contains-append_cases}
use Rattle.std.proofs.lemmas.List.Kept.{AllPairs-filter}
use Rattle.std.proofs.lemmas.Option.{same_Some}
use Rattle.causal_deps.specs.declared.record.Record.{Record}
use Rattle.causal_deps.specs.declared.record.Item.{Item}
use Rattle.causal_deps.specs.declared.record.Item.TheVariants.{External}
use Rattle.causal_deps.specs.Counts.{raised}
use Rattle.causal_deps.proofs.Lists.{Contains-cons, Contains-filter, Contains-here, Contains-there}
use Rattle.toid_filter.specs.declared.filter.AcceptedMark.{AcceptedMark}
use Rattle.toid_filter.specs.declared.champions.Share.{Share}
use Rattle.toid_filter.specs.Champions.{champion, grown}
use Rattle.toid_filter.specs.Filters.{FilterState, activated, is_own, owns, is_passed, is_held, is_known, is_met, is_due, is_held_back, reached_by, is_free, cancelled, due, not_due, released, before_name, from_name, stands_before, with_held, FitsFilter, IsNext, IsSteady, IsTidy}
use Rattle.toid_filter.proofs.Tests.{settled_from, all_from_contains, before_parts, before_from_host, before_from_toid, not_before, pairs_append, pairs_parts}
use Rattle.toid_filter.proofs.FilterLemmas.{passed_parts, passed_from, held_parts, held_from, due_parts, due_from, free_from, met_gives, own_is}
use Rattle.toid_filter.proofs.HeldLemmas.{Rising, filter_all, filter_none, two_parts}
use Rattle.toid_filter.proofs.MarkLemmas.{champion_same, on_tidy, open_tidy}
use Rattle.toid_filter.proofs.Running.{pass_taken}

-- a list whose first element is so
first_parts : (xs : List Record) (q : Record) → slice_get xs 0 ≡ Some q → xs ≡ q ∷ drop 1 xs
first_parts [] q is = absurd (cc)
first_parts (x ∷ xs) q is = ap (λ y. y ∷ xs) (cc)

some_first : (xs : List Record) (d : Record) → Contains xs d → (q : Record) × (slice_get xs 0 ≡ Some q)
some_first [] d has = absurd (omega (arith, has.1))
some_first (x ∷ xs) d has = (x, refl)

module _ (on : FilterState) (h : ℕ) (tidy : IsTidy on) (opened : on.accepted ≡ None) (only : (d : Record) → Contains on.held d → is_due on d ≡ true → d.host ≡ h) where
  abbrev first : ℕ
  first = get_or on.reached h 0 + 1

  abbrev front : List Record
  front = before_name h first on.held

  abbrev back : List Record
  back = from_name h first on.held

  whole : on.held ≡ front ++ back
  whole = two_parts h first on.held tidy.rising

  in_back : (d : Record) → Contains back d → Contains on.held d
  in_back d has = (Contains-filter (λ x. not (stands_before h first x)) on.held d has).0

  fits_of : (d : Record) → Contains on.held d → FitsFilter on d
  fits_of d has = All-contains (FitsFilter on) on.held d tidy.fits has

  -- what is held of the host is above what was passed
  above : (d : Record) → Contains on.held d → d.host ≡ h → first ≤ d.toid
  above d has host = elim (cases_lt (get_or on.reached h 0) d.toid) [
    | inl low ↦ omega (arith, low)
    | inr high ↦ absurd (true≢false (sym (passed_from on d.host d.toid (fits_of d has).first (omega (arith, high, ap (λ k. get_or on.reached k 0) host)) (own_is on d (fits_of d has)))
        ∙ All-contains (λ (x : Record). is_passed on x.host x.toid ≡ false) on.held d tidy.unpassed has))
  ]

  -- so it stands in the back
  behind : (d : Record) → Contains on.held d → d.host ≡ h → Contains back d
  behind d has host = elim (Contains-append_cases front back d (subst (λ xs. Contains xs d) whole has)) [
    | inr late ↦ late
    | inl early ↦ elim (before_parts h first d (Contains-filter (stands_before h first) on.held d early).1) [
      | inl low ↦ absurd (omega (arith, low, host))
      | inr both ↦ absurd (omega (arith, both.1, above d has host))
    ]
  ]

  back_rising : Rising back
  back_rising = AllPairs-filter (λ (q s : Record). stands_before s.host s.toid q ≡ true) (λ x. not (stands_before h first x)) on.held tidy.rising

  front_rising : Rising front
  front_rising = AllPairs-filter (λ (q s : Record). stands_before s.host s.toid q ≡ true) (stands_before h first) on.held tidy.rising

  open_at : (g t : ℕ) → is_held_back on.accepted g t ≡ false
  open_at g t = ap (λ o. is_held_back o g t) opened

  module _ (q : Record) (next : IsNext on.map on.number h first on.held q) where
    abbrev rest : List Record
    rest = drop 1 back

    back_is : back ≡ q ∷ rest
    back_is = first_parts back q next.is

    abbrev pub left : FilterState
    left = record on { held = front ++ rest }

    q_back : Contains back q
    q_back = subst (λ xs. Contains xs q) (sym back_is) (Contains-here q rest)

    q_held : Contains on.held q
    q_held = in_back q q_back

    rest_after : All (λ (s : Record). stands_before s.host s.toid q ≡ true) rest
    rest_after = (pairs_parts (λ (a s : Record). stands_before s.host s.toid a ≡ true) q rest (subst Rising back_is back_rising)).0

    rest_rising : Rising rest
    rest_rising = (pairs_parts (λ (a s : Record). stands_before s.host s.toid a ≡ true) q rest (subst Rising back_is back_rising)).1

    in_rest : (d : Record) → Contains rest d → Contains on.held d
    in_rest d has = in_back d (subst (λ xs. Contains xs d) (sym back_is) (Contains-there q rest d has))

    in_left : (d : Record) → Contains (front ++ rest) d → Contains on.held d
    in_left d has = elim (Contains-append_cases front rest d has) [
      | inl early ↦ (Contains-filter (stands_before h first) on.held d early).0
      | inr late ↦ in_rest d late
    ]

    -- what is left of the host is above the next one
    left_above : (d : Record) → Contains (front ++ rest) d → d.host ≡ h → q.toid < d.toid
    left_above d has host = elim (Contains-append_cases front rest d has) [
      | inl early ↦ elim (before_parts h first d (Contains-filter (stands_before h first) on.held d early).1) [
        | inl low ↦ absurd (omega (arith, low, host))
        | inr both ↦ absurd (omega (arith, both.1, above d (in_left d has) host))
      ]
      | inr late ↦ elim (before_parts d.host d.toid q (All-contains (λ (s : Record). stands_before s.host s.toid q ≡ true) rest d rest_after late)) [
        | inl low ↦ absurd (omega (arith, low, next.host, host))
        | inr both ↦ both.1
      ]
    ]

    unpassed : is_passed on q.host q.toid ≡ false
    unpassed = All-contains (λ (x : Record). is_passed on x.host x.toid ≡ false) on.held q tidy.unpassed q_held

    pub next_fits : FitsFilter left q
    next_fits = let was = fits_of q q_held in record { host = was.host; first = was.first; own = was.own }

    unheld : is_held left q.host q.toid ≡ false
    unheld = false_from_ne_true (is_held left q.host q.toid) (λ is.
        let found = held_parts left q.host q.toid is in
        absurd (omega (arith, left_above found.0 found.1 (found.2 ∙ next.host), found.3)))

    pub next_new : is_known left q.host q.toid ≡ false
    next_new = ap₂ (λ a b. a || b) unpassed unheld

    pub next_free : is_free left q ≡ true
    next_free = free_from left q (λ u low. settled_from u (owns left q.host u) (is_passed left q.host u) (λ some own. elim (cases_lt (get_or on.reached h 0) u) [
      | inr passed ↦ passed_from left q.host u some (omega (arith, passed, ap (λ k. get_or on.reached k 0) next.host)) own
      | inl over ↦ absurd (next.next (u, omega (arith, over), low, subst (λ k. champion on.map k u ≡ on.number) next.host (eqb-true (champion on.map q.host u) on.number own)))
    ])) (open_at q.host q.toid)

    -- what is known now was known
    known_was : (g t : ℕ) → is_known left g t ≡ true → is_known on g t ≡ true
    known_was g t is = elim (or_cases (is_passed left g t) (is_held left g t) is) [
      | inl passed ↦ or_left (is_passed on g t) (is_held on g t) passed
      | inr held ↦ let found = held_parts left g t held in or_right (is_passed on g t) (is_held on g t) (held_from on g t found.0 (in_left found.0 found.1) found.2 found.3)
    ]

    due_was : (d : Record) → is_due left d ≡ true → is_due on d ≡ true
    due_was d is =
        let parts = due_parts left d is in
        due_from on d (λ u low. settled_from u (owns on d.host u) (is_known on d.host u) (λ some own. known_was d.host u (met_gives left d.host u (parts.0 u low) some own))) parts.1

    pub next_steady : IsSteady left
    next_steady = record {
      tidy = record {
        width = tidy.width;
        reached_own = tidy.reached_own;
        reached_open = tidy.reached_open;
        rising = pairs_append (λ (a s : Record). stands_before s.host s.toid a ≡ true) front rest front_rising rest_rising
            (all_from_contains (λ x. All (λ (s : Record). stands_before s.host s.toid x ≡ true) rest) front (λ x has. all_from_contains (λ (s : Record). stands_before s.host s.toid x ≡ true) rest (λ s late.
            front_before x s has (subst (λ xs. Contains xs s) (sym back_is) (Contains-there q rest s late)))));
        fits = all_from_contains (FitsFilter left) (front ++ rest) (λ d has. let was = fits_of d (in_left d has) in record { host = was.host; first = was.first; own = was.own });
        unpassed = all_from_contains (λ (x : Record). is_passed left x.host x.toid ≡ false) (front ++ rest) (λ d has. All-contains (λ (x : Record). is_passed on x.host x.toid ≡ false) on.held d tidy.unpassed (in_left d has));
      };
      none_due = all_from_contains (λ d. is_due left d ≡ false) (front ++ rest) (λ d has. false_from_ne_true (is_due left d) (λ is.
          let host : d.host ≡ h = only d (in_left d has) (due_was d is) in
          let low : q.toid < d.toid = left_above d has host in
          let met : is_met left q.host q.toid ≡ true = subst (λ k. is_met left k q.toid ≡ true) (host ∙ sym next.host) ((due_parts left d is).0 q.toid low) in
          true≢false (sym (met_gives left q.host q.toid met next_fits.first (own_is left q next_fits)) ∙ next_new)));
    }
      where
        front_before : (x s : Record) → Contains front x → Contains back s → stands_before s.host s.toid x ≡ true
        front_before x s early late = elim (before_parts h first x (Contains-filter (stands_before h first) on.held x early).1) [
          | inl low ↦ elim (not_before h first s (back_of s late)) [
            | inl more ↦ before_from_host s.host s.toid x (omega (arith, low, more))
            | inr same ↦ before_from_host s.host s.toid x (omega (arith, low, same.0))
          ]
          | inr both ↦ elim (not_before h first s (back_of s late)) [
            | inl more ↦ before_from_host s.host s.toid x (omega (arith, both.0, more))
            | inr same ↦ before_from_toid s.host s.toid x (both.0 ∙ sym same.0) (omega (arith, both.1, same.1))
          ]
        ]
          where
            back_of : (s : Record) → Contains back s → stands_before h first s ≡ false
            back_of s late = not-true (stands_before h first s) (Contains-filter (λ x. not (stands_before h first x)) on.held s late).1

    -- taken once more, it stands where it stood
    pub next_again : with_held left q ≡ on
    next_again = ap (λ xs. record on { held = xs }) (ap₂ (λ xs ys. xs ++ q ∷ ys) fronts backs ∙ ap (λ ys. front ++ ys) (sym back_is) ∙ sym whole)
      where
        early : (x : Record) → Contains front x → stands_before q.host q.toid x ≡ true
        early x has = elim (before_parts h first x (Contains-filter (stands_before h first) on.held x has).1) [
          | inl low ↦ before_from_host q.host q.toid x (omega (arith, low, next.host))
          | inr both ↦ before_from_toid q.host q.toid x (both.0 ∙ sym next.host) (omega (arith, both.1, above q q_held next.host))
        ]

        late : (x : Record) → Contains rest x → stands_before q.host q.toid x ≡ false
        late x has = false_from_ne_true (stands_before q.host q.toid x) (λ is. elim (before_parts x.host x.toid q (All-contains (λ (s : Record). stands_before s.host s.toid q ≡ true) rest x rest_after has)) [
          | inl low ↦ elim (before_parts q.host q.toid x is) [ inl lower ↦ absurd (omega (arith, low, lower)) | inr both ↦ absurd (omega (arith, low, both.0)) ]
          | inr same ↦ elim (before_parts q.host q.toid x is) [ inl lower ↦ absurd (omega (arith, lower, same.0)) | inr both ↦ absurd (omega (arith, both.1, same.1)) ]
        ])

        fronts : before_name q.host q.toid (front ++ rest) ≡ front
        fronts = filter-append (stands_before q.host q.toid) front rest
            ∙ ap₂ (λ xs ys. xs ++ ys) (filter_all (stands_before q.host q.toid) front (all_from_contains (λ x. stands_before q.host q.toid x ≡ true) front early))
            (filter_none (stands_before q.host q.toid) rest (all_from_contains (λ x. stands_before q.host q.toid x ≡ false) rest late)) ∙ append-nil front

        backs : from_name q.host q.toid (front ++ rest) ≡ rest
        backs = filter-append (λ x. not (stands_before q.host q.toid x)) front rest
            ∙ ap₂ (λ xs ys. xs ++ ys) (filter_none (λ x. not (stands_before q.host q.toid x)) front (all_from_contains (λ x. not (stands_before q.host q.toid x) ≡ false) front (λ x has. not_from_true (stands_before q.host q.toid x) (early x has))))
            (filter_all (λ x. not (stands_before q.host q.toid x)) rest (all_from_contains (λ x. not (stands_before q.host q.toid x) ≡ true) rest (λ x has. not_from_false (stands_before q.host q.toid x) (late x has))))

  -- Where the next own number is not held, nothing is due.
  module _ (none : (q : Record) → IsNext on.map on.number h first on.held q → ⊥) where
    nothing_due : (d : Record) → Contains on.held d → is_due on d ≡ false
    nothing_due d has = false_from_ne_true (is_due on d) (λ is. absurd (found d has is))
      where
        found : (d : Record) → Contains on.held d → is_due on d ≡ true → ⊥
        found d has is =
            let host : d.host ≡ h = only d has is in
            let late : Contains back d = behind d has host in
            let one = some_first back d late in
            let q : Record = one.0 in
            let back_is : back ≡ q ∷ drop 1 back = first_parts back q one.1 in
            let q_back : Contains back q = subst (λ xs. Contains xs q) (sym back_is) (Contains-here q (drop 1 back)) in
            let after : All (λ (s : Record). stands_before s.host s.toid q ≡ true) (drop 1 back) = (pairs_parts (λ (a s : Record). stands_before s.host s.toid a ≡ true) q (drop 1 back) (subst Rising back_is back_rising)).0 in
            let not_early : stands_before h first q ≡ false = not-true (stands_before h first q) (Contains-filter (λ x. not (stands_before h first x)) on.held q q_back).1 in
            let least : (q.host ≡ h) × (q.toid ≤ d.toid) = at q (drop 1 back) not_early after (Contains-cons q (drop 1 back) d (subst (λ xs. Contains xs d) back_is late)) host in
            none q (record {
              is = one.1;
              host = least.0;
              next = λ (u, over, under, own).
                  let met : is_met on h u ≡ true = subst (λ k. is_met on k u ≡ true) host ((due_parts on d is).0 u (omega (arith, under, least.1))) in
                  let known : is_known on h u ≡ true = met_gives on h u met (omega (arith, over)) (eq-eqb (champion on.map h u) on.number own) in
                  elim (or_cases (is_passed on h u) (is_held on h u) known) [
                    | inl passed ↦ absurd (omega (arith, (passed_parts on h u passed).1, over))
                    | inr held ↦
                        let r = held_parts on h u held in
                        let r_back : Contains back r.0 = behind r.0 r.1 r.2 in
                        elim (Contains-cons q (drop 1 back) r.0 (subst (λ xs. Contains xs r.0) back_is r_back)) [
                          | inl here ↦ absurd (omega (arith, ap (λ (x : Record). x.toid) here, r.3, under))
                          | inr there ↦ elim (before_parts r.0.host r.0.toid q (All-contains (λ (s : Record). stands_before s.host s.toid q ≡ true) (drop 1 back) r.0 after there)) [
                            | inl low ↦ absurd (omega (arith, low, r.2, least.0))
                            | inr both ↦ absurd (omega (arith, both.1, r.3, under))
                          ]
                        ]
                  ];
            })
          where
            at : (q : Record) (rest : List Record) → stands_before h first q ≡ false → All (λ (s : Record). stands_before s.host s.toid q ≡ true) rest → (q ≡ d) ⊎ Contains rest d → d.host ≡ h → (q.host ≡ h) × (q.toid ≤ d.toid)
            at q rest not_early after (inl here) host = (ap (λ (x : Record). x.host) here ∙ host, omega (arith, ap (λ (x : Record). x.toid) here))
            at q rest not_early after (inr there) host = elim (before_parts d.host d.toid q (All-contains (λ (s : Record). stands_before s.host s.toid q ≡ true) rest d after there)) [
              | inl low ↦ elim (not_before h first q not_early) [ inl more ↦ absurd (omega (arith, low, more, host)) | inr same ↦ absurd (omega (arith, low, same.0, host)) ]
              | inr both ↦ (both.0 ∙ host, omega (arith, both.1))
            ]

    pub none_steady : IsSteady on
    none_steady = record { tidy = tidy; none_due = all_from_contains (λ d. is_due on d ≡ false) on.held nothing_due }

    pub none_released : released on ≡ on
    none_released =
        let no_due : due on ≡ [] = filter_none (is_due on) on.held (all_from_contains (λ d. is_due on d ≡ false) on.held nothing_due) in
        let all_stay : not_due on ≡ on.held = filter_all (λ r. not (is_due on r)) on.held (all_from_contains (λ d. not (is_due on d) ≡ true) on.held (λ d has. not_from_false (is_due on d) (nothing_due d has))) in
        ap₂ (λ ds hs. record on { reached = reached_by on.reached ds; held = hs; out = on.out ++ map External ds }) no_due all_stay ∙ ap (λ xs. record on { out = xs }) (append-nil on.out)

-- What the code has when the next one was taken out: its parts, and what is left when it passed.
module _ (on : FilterState) (h : ℕ) (tidy : IsTidy on) (opened : on.accepted ≡ None) (only : (d : Record) → Contains on.held d → is_due on d ≡ true → d.host ≡ h)
    (q : Record) (n : ℕ) (n_is : n ≡ get_or on.reached h 0) (found : IsNext on.map on.number h (n + 1) on.held q) (held : List Record) (out : List Item)
    (taken_is : held ≡ before_name h (n + 1) on.held ++ drop 1 (from_name h (n + 1) on.held)) (out_is : out ≡ on.out) where
  abbrev code : FilterState
  code = record on { held = held; out = out }

  next : IsNext on.map on.number h (get_or on.reached h 0 + 1) on.held q
  next = subst (λ k. IsNext on.map on.number h (k + 1) on.held q) n_is found

  held_is : held ≡ before_name h (get_or on.reached h 0 + 1) on.held ++ drop 1 (from_name h (get_or on.reached h 0 + 1) on.held)
  held_is = taken_is ∙ ap (λ k. before_name h (k + 1) on.held ++ drop 1 (from_name h (k + 1) on.held)) n_is

  code_is : code ≡ left on h tidy opened only q next
  code_is = ap₂ (λ hs os. record on { held = hs; out = os }) held_is out_is

  pub code_steady : IsSteady code
  code_steady = subst IsSteady (sym code_is) (next_steady on h tidy opened only q next)

  pub code_fits : FitsFilter code q
  code_fits = subst (λ f. FitsFilter f q) (sym code_is) (next_fits on h tidy opened only q next)

  pub code_new : is_known code q.host q.toid ≡ false
  code_new = ap (λ f. is_known f q.host q.toid) code_is ∙ next_new on h tidy opened only q next

  pub code_free : is_free code q ≡ true
  code_free = ap (λ f. is_free f q) code_is ∙ next_free on h tidy opened only q next

  -- one record fewer is held
  pub code_fewer : length held + 1 ≡ length on.held
  code_fewer =
      let first : ℕ = get_or on.reached h 0 + 1 in
      let back : List Record = from_name h first on.held in
      let parts : on.held ≡ before_name h first on.held ++ back = two_parts h first on.held tidy.rising in
      let one : back ≡ q ∷ drop 1 back = first_parts back q next.is in
      omega (arith, ap (length {A = Record}) held_is, ap (length {A = Record}) parts, ap (length {A = Record}) one, length-append (before_name h first on.held) back, length-append (before_name h first on.held) (drop 1 back))

  pub few_from : (g t : ℕ) → length (from_name g t held) ≤ length held
  few_from g t = let parts : held ≡ before_name g t held ++ from_name g t held = two_parts g t held code_steady.tidy.rising in
      omega (arith, ap (length {A = Record}) parts, length-append (before_name g t held) (from_name g t held))

  pub code_hosts : All (λ (r : Record). r.host < length on.reached) held
  code_hosts = All-weaker (FitsFilter code) (λ (r : Record). r.host < length on.reached) (λ r was. omega (arith, was.host, tidy.width)) held code_steady.tidy.fits

  pub code_passes : (count : ℕ) (reached : List ℕ) (held' : List Record) (out' : List Item)
      → All (λ x. is_due (with_held code q) x ≡ true) (take count (from_name q.host q.toid held)) → All (λ x. is_due (with_held code q) x ≡ false) (drop count (from_name q.host q.toid held))
      → held' ≡ before_name q.host q.toid held ++ drop count (from_name q.host q.toid held)
      → reached ≡ reached_by (raised on.reached q.host q.toid) (take count (from_name q.host q.toid held))
      → out' ≡ (out ++ External q ∷ []) ++ map External (take count (from_name q.host q.toid held))
      → (record on { reached = reached; held = held'; out = out' } ≡ released on) × IsSteady (record on { reached = reached; held = held'; out = out' })
  code_passes count reached held' out' run_due rest_not at_held at_reached at_out =
      let passed = pass_taken code code q count (raised on.reached q.host q.toid) reached held' (out ++ External q ∷ []) out' refl code_steady code_fits code_new code_free run_due rest_not refl at_reached at_held refl at_out in
      (passed.0.2 ∙ ap released (ap (λ f. with_held f q) code_is ∙ next_again on h tidy opened only q next), passed.1)

-- And where the next one is not held.
module _ (on : FilterState) (h : ℕ) (tidy : IsTidy on) (opened : on.accepted ≡ None) (only : (d : Record) → Contains on.held d → is_due on d ≡ true → d.host ≡ h)
    (n : ℕ) (n_is : n ≡ get_or on.reached h 0) (none : (q : Record) → IsNext on.map on.number h (n + 1) on.held q → ⊥) (held : List Record) (out : List Item) (held_is : held ≡ on.held) (out_is : out ≡ on.out) where
  no_next : (q : Record) → IsNext on.map on.number h (get_or on.reached h 0 + 1) on.held q → ⊥
  no_next q next = none q (subst (λ k. IsNext on.map on.number h (k + 1) on.held q) (sym n_is) next)

  still_is : record on { held = held; out = out } ≡ on
  still_is = ap₂ (λ hs os. record on { held = hs; out = os }) held_is out_is

  pub still_steady : IsSteady (record on { held = held; out = out })
  still_steady = subst IsSteady (sym still_is) (none_steady on h tidy opened only no_next)

  pub still_released : record on { held = held; out = out } ≡ released on
  still_released = still_is ∙ sym (none_released on h tidy opened only no_next)

-- Without its mark: what is due then is of the mark's host.
module _ (f : FilterState) (mark : AcceptedMark) (steady : IsSteady f) (marked : f.accepted ≡ Some mark) where
  abbrev pub unmarked : FilterState
  unmarked = record f { accepted = None }

  pub unmarked_tidy : IsTidy unmarked
  unmarked_tidy = open_tidy f steady.tidy

  pub unmarked_only : (d : Record) → Contains f.held d → is_due unmarked d ≡ true → d.host ≡ mark.host
  unmarked_only d has is = elim (cases_eq mark.host d.host) [
    | inl same ↦ sym same
    | inr other ↦ absurd (true≢false (sym (due_from f d (due_parts unmarked d is).0 (ap (λ o. is_held_back o d.host d.toid) marked ∙ ap (λ b. b && leb mark.from d.toid) (ne_eqb mark.host d.host other)))
        ∙ All-contains (λ x. is_due f x ≡ false) f.held d steady.none_due has))
  ]

-- a filter with no mark has nothing that is due
pub no_mark : (f : FilterState) → IsSteady f → f.accepted ≡ None → cancelled f ≡ f
no_mark f steady none =
    ap released (ap (λ o. record f { accepted = o }) (sym none))
    ∙ ap₂ (λ ds hs. record f { reached = reached_by f.reached ds; held = hs; out = f.out ++ map External ds }) (filter_none (is_due f) f.held steady.none_due)
    (filter_all (λ r. not (is_due f r)) f.held (All-weaker (λ r. is_due f r ≡ false) (λ r. not (is_due f r) ≡ true) (λ r is. not_from_false (is_due f r) is) f.held steady.none_due))
    ∙ ap (λ xs. record f { out = xs }) (append-nil f.out)

-- With the map that grew at its mark: what is due then is of the mark's host.
module _ (f : FilterState) (mark : AcceptedMark) (steady : IsSteady f) (marked : f.accepted ≡ Some mark) where
  abbrev m_on : List (List Share)
  m_on = grown f.map mark.host mark.from

  abbrev grown_on : FilterState
  grown_on = record f { map = m_on; accepted = None; held = filter (is_own m_on f.number) f.held }

  -- another host's numbers are dealt as before
  owned_as : (g t : ℕ) → mark.host ≢ g → owns grown_on g t ≡ owns f g t
  owned_as g t other = ap (λ c. eqb c f.number) (champion_same f.map mark.host mark.from g t (ap (λ b. b && leb mark.from t) (ne_eqb mark.host g other)))

  passed_as : (g t : ℕ) → mark.host ≢ g → is_passed grown_on g t ≡ true → is_passed f g t ≡ true
  passed_as g t other is = let parts = passed_parts grown_on g t is in passed_from f g t parts.0 parts.1 (sym (owned_as g t other) ∙ parts.2)

  known_as : (g t : ℕ) → mark.host ≢ g → is_known grown_on g t ≡ true → is_known f g t ≡ true
  known_as g t other is = elim (or_cases (is_passed grown_on g t) (is_held grown_on g t) is) [
    | inl passed ↦ or_left (is_passed f g t) (is_held f g t) (passed_as g t other passed)
    | inr held ↦ let found = held_parts grown_on g t held in or_right (is_passed f g t) (is_held f g t) (held_from f g t found.0 (Contains-filter (is_own m_on f.number) f.held found.0 found.1).0 found.2 found.3)
  ]

  grown_only : (d : Record) → Contains grown_on.held d → is_due grown_on d ≡ true → d.host ≡ mark.host
  grown_only d has is = elim (cases_eq mark.host d.host) [
    | inl same ↦ sym same
    | inr other ↦
        let was : is_due f d ≡ true =
        due_from f d (λ u low. settled_from u (owns f d.host u) (is_known f d.host u) (λ some own.
        known_as d.host u other (met_gives grown_on d.host u ((due_parts grown_on d is).0 u low) some (owned_as d.host u other ∙ own))))
        (ap (λ o. is_held_back o d.host d.toid) marked ∙ ap (λ b. b && leb mark.from d.toid) (ne_eqb mark.host d.host other)) in
        absurd (true≢false (sym was ∙ All-contains (λ x. is_due f x ≡ false) f.held d steady.none_due (Contains-filter (is_own m_on f.number) f.held d has).0))
  ]

  -- as the code has it
  module _ (m : List (List Share)) (m_is : m ≡ m_on) (held : List Record) (held_is : held ≡ filter (is_own m f.number) f.held) where
    abbrev pub remapped : FilterState
    remapped = record f { map = m; accepted = None; held = held }

    remapped_is : remapped ≡ grown_on
    remapped_is = ap₂ (λ ms hs. record f { map = ms; accepted = None; held = hs }) m_is (held_is ∙ ap (λ ms. filter (is_own ms f.number) f.held) m_is)

    pub remapped_tidy : IsTidy remapped
    remapped_tidy = subst IsTidy (sym remapped_is) (on_tidy f.map mark.host mark.from f refl marked steady)

    pub remapped_only : (d : Record) → Contains held d → is_due remapped d ≡ true → d.host ≡ mark.host
    remapped_only = subst (λ o. (d : Record) → Contains o.held d → is_due o d ≡ true → d.host ≡ mark.host) (sym remapped_is) grown_only

    pub remapped_released : released remapped ≡ activated m f
    remapped_released = ap (λ hs. released (record f { map = m; accepted = None; held = hs })) held_is

-- the map is the one that grew at the filter's own mark
pub grown_at : (v w : FilterState) (mark other : AcceptedMark) (m : List (List Share)) → v ≡ w → v.accepted ≡ Some mark → w.accepted ≡ Some other → m ≡ grown w.map other.host other.from → m ≡ grown v.map mark.host mark.from
grown_at v w mark other m same marked else_marked is =
    let one : other ≡ mark = same_Some other mark (sym else_marked ∙ ap (λ (f : FilterState). f.accepted) (sym same) ∙ marked) in
    is ∙ ap₂ (λ (f : FilterState) (k : AcceptedMark). grown f.map k.host k.from) (sym same) one
