-- The held records that other filters serve are taken out one after another, from the first on.
use Rattle.std.proofs.Common.{◌≡◌, ℕ, ◌+◌, ◌≤◌, Bool, true, false, cond, not, List, [], ◌∷◌, ◌++◌, length, map, filter, drop, refl, ap, ap₂, sym, ◌∙◌, subst, inl, inr, arith, Option, Some, None, slice_get, Contains, append_assoc, append-nil, length-append}
use Rattle.std.specs.List.{All, find}
use Rattle.std.specs.Option.{option_map}
use Rattle.std.proofs.lemmas.Bool.{cond_both, not_from_true, not_from_false, true≢false, false_from_ne_true}
use Rattle.std.proofs.lemmas.List.Elements.{All-nil, All-cons, All-head, All-tail, All-append, All-contains, All-weaker, filter-append, Contains-append_cases, Contains-append_left, Contains-append_right}
use Rattle.std.proofs.lemmas.Option.{same_Some}
use Rattle.causal_deps.specs.declared.record.Record.{Record}
use Rattle.causal_deps.proofs.Lists.{Contains-cons, Contains-filter, Contains-here, Contains-there}
use Rattle.toid_filter.specs.Filters.{before_name, from_name, named, stands_before}
use Rattle.toid_filter.proofs.Tests.{all_from_contains, before_parts, pairs_parts}
use Rattle.toid_filter.proofs.HeldLemmas.{Rising, filter_all, filter_none, first_named, two_parts}

-- Looking for the first that passes a test: none before what is left does.
pub record IsLooking (p : Record → Bool) (rs : List Record) (left : List ((ℕ × ℕ) × Record)) : Type 0 where
  pub rest : List Record
  pub shown : left ≡ map named rest
  pub same : find p rs ≡ find p rest
  pub numbers : All (λ r. 1 ≤ r.toid) rest

first_parts : (xs : List Record) (q : Record) → slice_get xs 0 ≡ Some q → xs ≡ q ∷ drop 1 xs
first_parts [] q is = absurd (cc)
first_parts (x ∷ xs) q is = ap (λ y. y ∷ xs) (cc)

module _ (p : Record → Bool) (rs : List Record) (left : List ((ℕ × ℕ) × Record)) (now : IsLooking p rs left) where
  module _ (e : (ℕ × ℕ) × Record) (others : List ((ℕ × ℕ) × Record)) (next : left ≡ e ∷ others) where
    is : (slice_get now.rest 0 ≡ Some e.1) × (e ≡ named e.1) × (others ≡ map named (drop 1 now.rest))
    is = first_named now.rest e others (sym now.shown ∙ next)

    rest_is : now.rest ≡ e.1 ∷ drop 1 now.rest
    rest_is = first_parts now.rest e.1 is.0

    pub look_number : 1 ≤ e.1.toid
    look_number = All-head (λ (r : Record). 1 ≤ r.toid) e.1 (drop 1 now.rest) (subst (All (λ (r : Record). 1 ≤ r.toid)) rest_is now.numbers)

    pub look_name : e.0 ≡ (e.1.host, e.1.toid)
    look_name = ap (λ (x : (ℕ × ℕ) × Record). x.0) is.1

    pub look_found : p e.1 ≡ true → find p rs ≡ Some e.1
    look_found passes = now.same ∙ ap (find p) rest_is ∙ ap (λ b. cond b (Some e.1) (find p (drop 1 now.rest))) passes

    pub look_on : p e.1 ≡ false → IsLooking p rs others
    look_on fails = record {
      rest = drop 1 now.rest;
      shown = is.2;
      same = now.same ∙ ap (find p) rest_is ∙ ap (λ b. cond b (Some e.1) (find p (drop 1 now.rest))) fails;
      numbers = All-tail (λ (r : Record). 1 ≤ r.toid) e.1 (drop 1 now.rest) (subst (All (λ (r : Record). 1 ≤ r.toid)) rest_is now.numbers);
    }

  pub look_none : left ≡ [] → find p rs ≡ None
  look_none ended = now.same ∙ at now.rest (sym now.shown ∙ ended)
    where
      at : (xs : List Record) → map named xs ≡ [] → find p xs ≡ None
      at [] is = refl
      at (x ∷ xs) is = absurd (omega (arith, ap (λ (ys : List ((ℕ × ℕ) × Record)). length ys) is))

-- What is found, and what stands before and behind it.
pub record IsFound (p : Record → Bool) (xs : List Record) (r : Record) : Type 0 where
  pub early : List Record
  pub late : List Record
  pub parts : xs ≡ early ++ r ∷ late
  pub none : All (λ x. p x ≡ false) early
  pub passes : p r ≡ true

found_parts : (p : Record → Bool) (xs : List Record) (r : Record) → find p xs ≡ Some r → IsFound p xs r
found_parts p [] r is = absurd (cc)
found_parts p (x ∷ xs) r is = at (p x) refl is (found_parts p xs r)
  where
    at : (b : Bool) → p x ≡ b → cond b (Some x) (find p xs) ≡ Some r → (find p xs ≡ Some r → IsFound p xs r) → IsFound p (x ∷ xs) r
    at true passes here later =
        let same : x ≡ r = same_Some x r here in
        record { early = []; late = xs; parts = ap (λ y. y ∷ xs) same; none = All-nil (λ x. p x ≡ false); passes = sym (ap p same) ∙ passes }
    at false fails more later =
        let rest : IsFound p xs r = later more in
        record { early = x ∷ rest.early; late = rest.late; parts = ap (λ ys. x ∷ ys) rest.parts; none = All-cons (λ x. p x ≡ false) x rest.early fails rest.none; passes = rest.passes }

none_found : (p : Record → Bool) (xs : List Record) → find p xs ≡ None → All (λ x. p x ≡ false) xs
none_found p [] is = All-nil (λ x. p x ≡ false)
none_found p (x ∷ xs) is = at (p x) refl is (none_found p xs)
  where
    at : (b : Bool) → p x ≡ b → cond b (Some x) (find p xs) ≡ None → (find p xs ≡ None → All (λ y. p y ≡ false) xs) → All (λ y. p y ≡ false) (x ∷ xs)
    at true passes here later = absurd (cc)
    at false fails more later = All-cons (λ x. p x ≡ false) x xs fails (later more)

-- of a list whose elements stand in order, what is in front stands before what is behind
pairs_behind : (xs ys : List Record) → Rising (xs ++ ys) → Rising ys
pairs_behind [] ys rising = rising
pairs_behind (x ∷ xs) ys rising = pairs_behind xs ys (pairs_parts (λ (a s : Record). stands_before s.host s.toid a ≡ true) x (xs ++ ys) rising).1

pairs_across : (xs : List Record) (x : Record) → Contains xs x → (ys : List Record) (y : Record) → Contains ys y → Rising (xs ++ ys) → stands_before y.host y.toid x ≡ true
pairs_across [] x has ys y there rising = absurd (omega (arith, has.1))
pairs_across (z ∷ xs) x has ys y there rising =
    let parts = pairs_parts (λ (a s : Record). stands_before s.host s.toid a ≡ true) z (xs ++ ys) rising in
    elim (Contains-cons z xs x has) [
      | inl same ↦ subst (λ v. stands_before y.host y.toid v ≡ true) same (All-contains (λ (s : Record). stands_before s.host s.toid z ≡ true) (xs ++ ys) y parts.0 (Contains-append_right xs ys y there))
      | inr rest ↦ pairs_across xs x rest ys y there parts.1
    ]

-- So far these were taken out; all that stands before the name stays.
pub record IsLosing (own : Record → Bool) (held0 lost0 held lost : List Record) (h t : ℕ) : Type 0 where
  pub kept : filter own held ≡ filter own held0
  pub taken : lost ++ filter (λ r. not (own r)) held ≡ lost0 ++ filter (λ r. not (own r)) held0
  pub before : All (λ r. own r ≡ true) (before_name h t held)
  pub numbers : All (λ r. 1 ≤ r.toid) held

pub losing_starts : (own : Record → Bool) (held lost : List Record) → All (λ r. 1 ≤ r.toid) held → IsLosing own held lost held lost 0 0
losing_starts own held lost numbers = record {
  kept = refl;
  taken = refl;
  before = subst (All (λ r. own r ≡ true)) (sym (filter_none (stands_before 0 0) held (all_from_contains (λ r. stands_before 0 0 r ≡ false) held (λ r has. false_from_ne_true (stands_before 0 0 r) (λ is. nothing r is))))) (All-nil (λ r. own r ≡ true));
  numbers = numbers;
}
  where
    nothing : (r : Record) → stands_before 0 0 r ≡ true → ⊥
    nothing r is = elim (before_parts 0 0 r is) [ inl low ↦ omega (arith, low) | inr both ↦ omega (arith, both.1) ]

module _ (own : Record → Bool) (held0 lost0 held lost : List Record) (h t : ℕ) (now : IsLosing own held0 lost0 held lost h t) (rising : Rising held) where
  abbrev away : Record → Bool
  away r = not (own r)

  parts : held ≡ before_name h t held ++ from_name h t held
  parts = two_parts h t held rising

  -- none is left to be taken out
  module _ (none : find away (from_name h t held) ≡ None) where
    all_own : All (λ r. own r ≡ true) held
    all_own = subst (All (λ r. own r ≡ true)) (sym parts)
        (All-append (λ r. own r ≡ true) (before_name h t held) (from_name h t held) now.before
        (All-weaker (λ r. away r ≡ false) (λ r. own r ≡ true) (λ r is. stays (own r) is) (from_name h t held) (none_found away (from_name h t held) none)))
      where
        stays : (b : Bool) → not b ≡ false → b ≡ true
        stays true is = refl
        stays false is = absurd (true≢false is)

    pub losing_ends_kept : held ≡ filter own held0
    losing_ends_kept = sym (filter_all own held all_own) ∙ now.kept

    pub losing_ends_taken : lost ≡ lost0 ++ filter away held0
    losing_ends_taken =
        sym (ap (λ xs. lost ++ xs) (filter_none away held (All-weaker (λ r. own r ≡ true) (λ r. away r ≡ false) (λ r is. not_from_true (own r) is) held all_own)) ∙ append-nil lost) ∙ now.taken

  -- the first one that is to be taken out
  module _ (r : Record) (found : find away (from_name h t held) ≡ Some r) where
    pub here : IsFound away (from_name h t held) r
    here = found_parts away (from_name h t held) r found

    abbrev early : List Record
    early = before_name h t held ++ here.early

    abbrev late : List Record
    late = here.late

    whole : held ≡ early ++ r ∷ late
    whole = parts ∙ ap (λ xs. before_name h t held ++ xs) here.parts ∙ sym (append_assoc (before_name h t held) here.early (r ∷ late))

    early_own : All (λ x. own x ≡ true) early
    early_own = All-append (λ x. own x ≡ true) (before_name h t held) here.early now.before (All-weaker (λ x. away x ≡ false) (λ x. own x ≡ true) (λ x is. stays (own x) is) here.early here.none)
      where
        stays : (b : Bool) → not b ≡ false → b ≡ true
        stays true is = refl
        stays false is = absurd (true≢false is)

    early_before : (x : Record) → Contains early x → stands_before r.host r.toid x ≡ true
    early_before x has = pairs_across early x has (r ∷ late) r (Contains-here r late) (subst Rising whole rising)

    late_after : (x : Record) → Contains late x → stands_before r.host r.toid x ≡ false
    late_after x has =
        let after : stands_before x.host x.toid r ≡ true = All-contains (λ (s : Record). stands_before s.host s.toid r ≡ true) late x (pairs_parts (λ (a s : Record). stands_before s.host s.toid a ≡ true) r late (pairs_behind early (r ∷ late) (subst Rising whole rising))).0 has in
        false_from_ne_true (stands_before r.host r.toid x) (λ is. elim (before_parts x.host x.toid r after) [
          | inl low ↦ elim (before_parts r.host r.toid x is) [ inl lower ↦ absurd (omega (arith, low, lower)) | inr both ↦ absurd (omega (arith, low, both.0)) ]
          | inr same ↦ elim (before_parts r.host r.toid x is) [ inl lower ↦ absurd (omega (arith, lower, same.0)) | inr both ↦ absurd (omega (arith, both.1, same.1)) ]
        ])

    self_after : stands_before r.host r.toid r ≡ false
    self_after = false_from_ne_true (stands_before r.host r.toid r) (λ is. elim (before_parts r.host r.toid r is) [ inl low ↦ absurd (omega (arith, low)) | inr both ↦ absurd (omega (arith, both.1)) ])

    behind_after : (x : Record) → Contains (r ∷ late) x → stands_before r.host r.toid x ≡ false
    behind_after x has = elim (Contains-cons r late x has) [
      | inl same ↦ subst (λ y. stands_before r.host r.toid y ≡ false) same self_after
      | inr rest ↦ late_after x rest
    ]

    pub before_is : before_name r.host r.toid held ≡ early
    before_is = ap (filter (stands_before r.host r.toid)) whole ∙ filter-append (stands_before r.host r.toid) early (r ∷ late)
        ∙ ap₂ (λ xs ys. xs ++ ys) (filter_all (stands_before r.host r.toid) early (all_from_contains (λ x. stands_before r.host r.toid x ≡ true) early early_before))
        (filter_none (stands_before r.host r.toid) (r ∷ late) (all_from_contains (λ x. stands_before r.host r.toid x ≡ false) (r ∷ late) behind_after)) ∙ append-nil early

    pub from_is : from_name r.host r.toid held ≡ r ∷ late
    from_is = ap (filter (λ x. not (stands_before r.host r.toid x))) whole ∙ filter-append (λ x. not (stands_before r.host r.toid x)) early (r ∷ late)
        ∙ ap₂ (λ xs ys. xs ++ ys)
        (filter_none (λ x. not (stands_before r.host r.toid x)) early (all_from_contains (λ x. not (stands_before r.host r.toid x) ≡ false) early (λ x has. not_from_true (stands_before r.host r.toid x) (early_before x has))))
        (filter_all (λ x. not (stands_before r.host r.toid x)) (r ∷ late) (all_from_contains (λ x. not (stands_before r.host r.toid x) ≡ true) (r ∷ late) (λ x has. not_from_false (stands_before r.host r.toid x) (behind_after x has))))

    pub losing_first : slice_get (from_name r.host r.toid held) 0 ≡ Some r
    losing_first = ap (λ xs. slice_get xs 0) from_is

    pub losing_goes : (new : List Record) → new ≡ before_name r.host r.toid held ++ drop 1 (from_name r.host r.toid held) → IsLosing own held0 lost0 new (lost ++ r ∷ []) r.host r.toid × (length new + 1 ≡ length held)
    losing_goes new new_is =
        let is : new ≡ early ++ late = new_is ∙ ap₂ (λ xs ys. xs ++ drop 1 ys) before_is from_is in
        let not_own : own r ≡ false = not-true-own (own r) here.passes in (
          record {
            kept = ap (filter own) is ∙ filter-append own early late ∙ ap (λ ys. filter own early ++ ys) (sym (ap (λ b. cond b (r ∷ filter own late) (filter own late)) not_own)) ∙ sym (filter-append own early (r ∷ late)) ∙ sym (ap (filter own) whole) ∙ now.kept;
            taken =
                ap (λ xs. (lost ++ r ∷ []) ++ filter away xs) is ∙ ap (λ xs. (lost ++ r ∷ []) ++ xs) (filter-append away early late ∙ ap (λ xs. xs ++ filter away late) none_early)
                ∙ append_assoc lost (r ∷ []) (filter away late)
                ∙ ap (λ xs. lost ++ xs) (sym (ap (filter away) whole ∙ filter-append away early (r ∷ late) ∙ ap₂ (λ xs ys. xs ++ ys) none_early (ap (λ b. cond b (r ∷ filter away late) (filter away late)) here.passes)))
                ∙ now.taken;
            before = all_from_contains (λ x. own x ≡ true) (before_name r.host r.toid new) (λ x has.
                let both = Contains-filter (stands_before r.host r.toid) new x has in
                elim (Contains-append_cases early late x (subst (λ xs. Contains xs x) is both.0)) [
                  | inl front ↦ All-contains (λ y. own y ≡ true) early x early_own front
                  | inr back ↦ absurd (true≢false (sym both.1 ∙ late_after x back))
                ]);
            numbers = all_from_contains (λ (x : Record). 1 ≤ x.toid) new (λ x has. All-contains (λ (y : Record). 1 ≤ y.toid) held x now.numbers (subst (λ xs. Contains xs x) (sym whole)
                (elim (Contains-append_cases early late x (subst (λ xs. Contains xs x) is has)) [
                  | inl front ↦ Contains-append_left early (r ∷ late) x front
                  | inr back ↦ Contains-append_right early (r ∷ late) x (Contains-there r late x back)
                ])));
          },
          omega (arith, ap (length {A = Record}) is, ap (length {A = Record}) whole, length-append early late, length-append early (r ∷ late)),
        )
      where
        not-true-own : (b : Bool) → not b ≡ true → b ≡ false
        not-true-own true is = absurd (true≢false (sym is))
        not-true-own false is = refl

        none_early : filter away early ≡ []
        none_early = filter_none away early (All-weaker (λ x. own x ≡ true) (λ x. away x ≡ false) (λ x is. not_from_true (own x) is) early early_own)

-- The code's name of what is found.
pub none_named : (o : Option Record) → ◌≡◌ {A = Option (ℕ × ℕ)} None (option_map (λ (r : Record). (r.host, r.toid)) o) → o ≡ None
none_named None is = refl
none_named (Some r) is = absurd (cc)

name_found : (o : Option Record) (n : ℕ × ℕ) → Some n ≡ option_map (λ (r : Record). (r.host, r.toid)) o → (r : Record) × (o ≡ Some r) × (n ≡ (r.host, r.toid))
name_found None n is = absurd (cc)
name_found (Some r) n is = (r, refl, same_Some n (r.host, r.toid) is)

module _ (own : Record → Bool) (held0 lost0 held lost : List Record) (h t : ℕ) (now : IsLosing own held0 lost0 held lost h t) (rising : Rising held)
    (n : ℕ × ℕ) (named_is : Some n ≡ option_map (λ (r : Record). (r.host, r.toid)) (find (λ r. not (own r)) (from_name h t held))) where
  named_one : (r : Record) × (find (λ r. not (own r)) (from_name h t held) ≡ Some r) × (n ≡ (r.host, r.toid))
  named_one = name_found (find (λ r. not (own r)) (from_name h t held)) n named_is

  there : slice_get (from_name n.0 n.1 held) 0 ≡ Some named_one.0
  there = ap (λ (k : ℕ × ℕ). slice_get (from_name k.0 k.1 held) 0) named_one.2 ∙ losing_first own held0 lost0 held lost h t now rising named_one.0 named_one.1

  pub losing_some : None ≡ slice_get (from_name n.0 n.1 held) 0 → ⊥
  losing_some none = cc (there, none)

  pub losing_next : (r : Record) → Some r ≡ slice_get (from_name n.0 n.1 held) 0 → (new : List Record) → new ≡ before_name n.0 n.1 held ++ drop 1 (from_name n.0 n.1 held)
      → IsLosing own held0 lost0 new (lost ++ r ∷ []) n.0 n.1 × (length new + 1 ≡ length held)
  losing_next r is new new_is =
      let same : named_one.0 ≡ r = same_Some named_one.0 r (sym there ∙ sym is) in
      let goes = losing_goes own held0 lost0 held lost h t now rising named_one.0 named_one.1 new (new_is ∙ ap (λ (k : ℕ × ℕ). before_name k.0 k.1 held ++ drop 1 (from_name k.0 k.1 held)) named_one.2) in (
        subst (λ (k : ℕ × ℕ). IsLosing own held0 lost0 new (lost ++ r ∷ []) k.0 k.1) (sym named_one.2)
            (subst (λ (x : Record). IsLosing own held0 lost0 new (lost ++ x ∷ []) named_one.0.host named_one.0.toid) same goes.0),
        goes.1,
      )

-- fewer pass a test than there are
pub few_filtered : (p : Record → Bool) (xs : List Record) → length (filter p xs) ≤ length xs
few_filtered p [] = omega arith
few_filtered p (x ∷ xs) = cond_both (p x) (x ∷ filter p xs) (filter p xs) (λ ys. length ys ≤ length (x ∷ xs)) (λ _. omega (arith, few_filtered p xs)) (λ _. omega (arith, few_filtered p xs))
