-- Arrivals that stand under their bounds or are ready, each once.
use Rattle.std.proofs.Common.{◌≡◌, ◌↔◌, Bool, IfSome, IsSome, slice_get, true, false, ℕ, ◌+◌, ◌<◌, ◌≤◌, cond, eqb, List, [], ◌∷◌, length, get_or, Option, Some, None, refl, ap, sym, ◌∙◌, inl, inr, arith}
use Rattle.std.specs.List.{All, AllByRecursion}
use Rattle.std.specs.List.Sorted.{IsPermutation, IsStrictlySortedBy}
use Rattle.std.specs.Ordering.{nat_cmp, ordering_then, match_ordering}
use Rattle.std.specs.declared.cmp.Ordering.{Ordering}
use Rattle.std.specs.declared.cmp.Ordering.TheVariants.{Less, Equal, Greater}
use Rattle.std.specs.declared.cmp.Reverse.{Reverse}
use Rattle.std.specs.BinaryHeap.{IsUpperBound}
use Rattle.std.specs.BTreeSet.{insert_key}
use Rattle.std.specs.Cmp.{nat_cmp_is}
use Rattle.std.proofs.lemmas.Bool.{cases_lt, cases_eq, false≢true, cond-true, cond-false, eq-eqb, ne_eqb}
use Rattle.std.proofs.lemmas.List.Elements.{All-cons, All-head, All-tail, All-weaker}
use Rattle.std.proofs.lemmas.List.Sorted.{All-permutation, sum_by_pushed, sum_by_popped}
use Rattle.std.proofs.lemmas.List.Sums.{sum_by-cons, get_or-le-sum_by}
use Rattle.std.proofs.lemmas.Map.Keys.{ge_from_not_lt, sorted_head}
use Rattle.std.proofs.lemmas.Map.Views.{All-insert_key}
use Rattle.std.proofs.lemmas.Option.{same_Some}
use Rattle.post_assignment.specs.Waiting.{IsBoundBelow, IsSplit, present, times_indexed, times_ready}

-- the order of bounds, and of arrivals under one bound
abbrev pub bound_order : ℕ × ℕ → ℕ × ℕ → Ordering
bound_order x y = ordering_then (nat_cmp x.0 y.0) (nat_cmp x.1 y.1)

indexed-cons : (a : ℕ) (k : ℕ × ℕ) (ks : List (ℕ × ℕ)) → times_indexed a (k ∷ ks) ≡ cond (eqb k.1 a) 1 0 + times_indexed a ks
indexed-cons a k ks = sum_by-cons (λ (x : ℕ × ℕ). cond (eqb x.1 a) 1 0) k ks

ready-cons : (a : ℕ) (r : Reverse ℕ) (rs : List (Reverse ℕ)) → times_ready a (r ∷ rs) ≡ cond (eqb r.0 a) 1 0 + times_ready a rs
ready-cons a r rs = sum_by-cons (λ (x : Reverse ℕ). cond (eqb x.0 a) 1 0) r rs

ready_pushed : (a : ℕ) (r : Reverse ℕ) (rs ss : List (Reverse ℕ)) → IsPermutation (r ∷ rs) ss → times_ready a ss ≡ cond (eqb r.0 a) 1 0 + times_ready a rs
ready_pushed a r rs ss perm = sum_by_pushed (λ (x : Reverse ℕ). cond (eqb x.0 a) 1 0) r rs ss perm

ready_popped : (a : ℕ) (r : Reverse ℕ) (rs ss : List (Reverse ℕ)) → IsPermutation rs (r ∷ ss) → times_ready a ss + cond (eqb r.0 a) 1 0 ≡ times_ready a rs
ready_popped a r rs ss perm = sum_by_popped (λ (x : Reverse ℕ). cond (eqb x.0 a) 1 0) r rs ss perm

counted_here : (a b : ℕ) → a ≡ b → ◌≡◌ {A = ℕ} (cond (eqb a b) 1 0) 1
counted_here a b same = cond-true {A = ℕ} (eqb a b) 1 0 (eq-eqb a b same)

counted_other : (a b : ℕ) → (a ≡ b → ⊥) → ◌≡◌ {A = ℕ} (cond (eqb a b) 1 0) 0
counted_other a b other = cond-false {A = ℕ} (eqb a b) 1 0 (ne_eqb a b other)

-- what stands in a list is counted
indexed_itself : (ks : List (ℕ × ℕ)) (i : ℕ) (d : ℕ × ℕ) → i < length ks → 1 ≤ times_indexed (get_or ks i d).1 ks
indexed_itself ks i d inside = omega (arith, get_or-le-sum_by (λ (x : ℕ × ℕ). cond (eqb x.1 (get_or ks i d).1) 1 0) ks i d inside, counted_here (get_or ks i d).1 (get_or ks i d).1 refl)

ready_itself : (rs : List (Reverse ℕ)) (i : ℕ) (d : Reverse ℕ) → i < length rs → 1 ≤ times_ready (get_or rs i d).0 rs
ready_itself rs i d inside = omega (arith, get_or-le-sum_by (λ (x : Reverse ℕ). cond (eqb x.0 (get_or rs i d).0) 1 0) rs i d inside, counted_here (get_or rs i d).0 (get_or rs i d).0 refl)

-- an arrival goes from the bounds to those that are ready

pub moved : (bounds : ℕ → Option ℕ) (lid : ℕ) (k : ℕ × ℕ) (ks : List (ℕ × ℕ)) (r : Reverse ℕ) (rs ss : List (Reverse ℕ)) → r.0 ≡ k.1 → k.0 < lid → IsPermutation (r ∷ rs) ss → IsSplit bounds (k ∷ ks) rs lid → IsSplit bounds ks ss lid
moved bounds lid k ks r rs ss same low perm split = record {
  once = λ a. omega (arith, split.once a, ready_pushed a r rs ss perm, indexed-cons a k ks, ap (λ x. cond {A = ℕ} (eqb x a) 1 0) same);
  indexed = All-tail (λ (x : ℕ × ℕ). bounds x.1 ≡ Some x.0) k ks split.indexed;
  below = All-permutation (λ (x : Reverse ℕ). IsBoundBelow lid (bounds x.0)) (r ∷ rs) ss perm (All-cons (λ (x : Reverse ℕ). IsBoundBelow lid (bounds x.0)) r rs
      (record { value = k.0; is = ap bounds same ∙ All-head (λ (x : ℕ × ℕ). bounds x.1 ≡ Some x.0) k ks split.indexed; below = low }) split.below);
}

-- the limit rises

pub raised : (bounds : ℕ → Option ℕ) (ks : List (ℕ × ℕ)) (rs : List (Reverse ℕ)) (low lid : ℕ) → low ≤ lid → IsSplit bounds ks rs low → IsSplit bounds ks rs lid
raised bounds ks rs low lid le split = record {
  once = split.once;
  indexed = split.indexed;
  below = All-weaker (λ (x : Reverse ℕ). IsBoundBelow low (bounds x.0)) (λ (x : Reverse ℕ). IsBoundBelow lid (bounds x.0)) (λ x is. record { value = is.value; is = is.is; below = omega (arith, is.below) }) rs split.below;
}

-- where none is ready, any limit does

pub unlimited : (bounds : ℕ → Option ℕ) (ks : List (ℕ × ℕ)) (lid limit : ℕ) → IsSplit bounds ks [] lid → IsSplit bounds ks [] limit
unlimited bounds ks lid limit split = record {
  once = split.once;
  indexed = split.indexed;
  below = λ k d inside. absurd (omega (arith, inside));
}

-- one arrival more

ends_less : (o : Ordering) → ordering_then o Less ≡ Equal → ⊥
ends_less Less is = absurd (cc)
ends_less Equal is = absurd (cc)
ends_less Greater is = absurd (cc)

ends_greater : (o : Ordering) → ordering_then o Greater ≡ Equal → ⊥
ends_greater Less is = absurd (cc)
ends_greater Equal is = absurd (cc)
ends_greater Greater is = absurd (cc)

same_arrival : (x y : ℕ × ℕ) → bound_order x y ≡ Equal → x.1 ≡ y.1
same_arrival x y equal = elim (cases_eq x.1 y.1) [
  | inl same ↦ same
  | inr other ↦ elim (cases_lt x.1 y.1) [
    | inl low ↦ absurd (ends_less (nat_cmp x.0 y.0) (ap (ordering_then (nat_cmp x.0 y.0)) (nat_cmp_is x.1 y.1 Less low) ∙ equal))
    | inr high ↦ let above : y.1 < x.1 = omega (arith, high, other) in absurd (ends_greater (nat_cmp x.0 y.0) (ap (ordering_then (nat_cmp x.0 y.0)) (nat_cmp_is x.1 y.1 Greater above) ∙ equal))
  ]
]

indexed_inserted : (a : ℕ) (k : ℕ × ℕ) (ks : List (ℕ × ℕ)) → times_indexed k.1 ks ≡ 0 → times_indexed a (insert_key bound_order ks k) ≡ times_indexed a ks + cond (eqb k.1 a) 1 0
indexed_inserted a k [] none = omega (arith, indexed-cons a k [])
indexed_inserted a k (x ∷ xs) none = by_order (bound_order k x) refl (indexed_inserted a k xs (omega (arith, none, indexed-cons k.1 x xs)))
  where
    by_order : (o : Ordering) → bound_order k x ≡ o → times_indexed a (insert_key bound_order xs k) ≡ times_indexed a xs + cond (eqb k.1 a) 1 0
        → times_indexed a (match_ordering o (k ∷ x ∷ xs) (x ∷ xs) (x ∷ insert_key bound_order xs k)) ≡ times_indexed a (x ∷ xs) + cond (eqb k.1 a) 1 0
    by_order Less is rest = omega (arith, indexed-cons a k (x ∷ xs))
    by_order Equal is rest = absurd (omega (arith, none, indexed-cons k.1 x xs, counted_here x.1 k.1 (sym (same_arrival k x is))))
    by_order Greater is rest = omega (arith, rest, indexed-cons a x xs, indexed-cons a x (insert_key bound_order xs k))

no_bound : (b : ℕ) → None ≡ Some b → ⊥
no_bound b is = absurd (cc)

pub grown : (bounds more : ℕ → Option ℕ) (k : ℕ × ℕ) (ks : List (ℕ × ℕ)) (rs : List (Reverse ℕ)) (lid : ℕ) → bounds k.1 ≡ None → more k.1 ≡ Some k.0 → ((a : ℕ) → (a ≡ k.1 → ⊥) → more a ≡ bounds a) → IsSplit bounds ks rs lid → IsSplit more (insert_key bound_order ks k) rs lid
grown bounds more k ks rs lid vacant here others split = record {
  once = λ a. elim (cases_eq a k.1) [
    | inl same ↦ omega (arith, once_here, ap (λ x. times_ready x rs) same, ap (λ x. times_indexed x (insert_key bound_order ks k)) same, ap (λ x. present (more x)) same)
    | inr other ↦ omega (arith, split.once a, indexed_inserted a k ks none, counted_other k.1 a (λ is. other (sym is)), ap present (others a other))
  ];
  indexed = All-insert_key bound_order k (λ (x : ℕ × ℕ). more x.1 ≡ Some x.0) ks
      (All-weaker (λ (x : ℕ × ℕ). bounds x.1 ≡ Some x.0) (λ (x : ℕ × ℕ). more x.1 ≡ Some x.0) (λ x is. still x.1 x.0 is) ks split.indexed) here;
  below = All-weaker (λ (x : Reverse ℕ). IsBoundBelow lid (bounds x.0)) (λ (x : Reverse ℕ). IsBoundBelow lid (more x.0)) (λ x is. record { value = is.value; is = still x.0 is.value is.is; below = is.below }) rs split.below;
}
  where
    none_here : times_ready k.1 rs + times_indexed k.1 ks ≡ 0
    none_here = split.once k.1 ∙ ap present vacant

    none : times_indexed k.1 ks ≡ 0
    none = omega (arith, none_here)

    once_here : times_ready k.1 rs + times_indexed k.1 (insert_key bound_order ks k) ≡ present (more k.1)
    once_here = omega (arith, none_here, indexed_inserted k.1 k ks none, counted_here k.1 k.1 refl, ap present here)

    still : (a b : ℕ) → bounds a ≡ Some b → more a ≡ Some b
    still a b is = elim (cases_eq a k.1) [
      | inl same ↦ absurd (no_bound b (sym (ap bounds same ∙ vacant) ∙ is))
      | inr other ↦ others a other ∙ is
    ]

-- one arrival less, of those that were ready

pub shrunk : (bounds less : ℕ → Option ℕ) (r : Reverse ℕ) (ks : List (ℕ × ℕ)) (rs ss : List (Reverse ℕ)) (lid : ℕ) → IsPermutation rs (r ∷ ss) → less r.0 ≡ None → ((a : ℕ) → (a ≡ r.0 → ⊥) → less a ≡ bounds a) → IsSplit bounds ks rs lid → IsSplit less ks ss lid
shrunk bounds less r ks rs ss lid perm gone others split = record {
  once = λ a. elim (cases_eq a r.0) [
    | inl same ↦ omega (arith, none_here, ap (λ x. times_ready x ss) same, ap (λ x. times_indexed x ks) same, ap (λ x. present (less x)) same, ap present gone)
    | inr other ↦ omega (arith, split.once a, ready_popped a r rs ss perm, counted_other r.0 a (λ is. other (sym is)), ap present (others a other))
  ];
  indexed = λ i d inside. others (get_or ks i d).1 (λ is. absurd (omega (arith, indexed_itself ks i d inside, ap (λ x. times_indexed x ks) is, none_here))) ∙ split.indexed i d inside;
  below = λ i d inside.
      (let was : IsBoundBelow lid (bounds (get_or ss i d).0) = All-tail (λ (x : Reverse ℕ). IsBoundBelow lid (bounds x.0)) r ss all i d inside in
      record { value = was.value; is = others (get_or ss i d).0 (λ is. absurd (omega (arith, ready_itself ss i d inside, ap (λ x. times_ready x ss) is, none_here))) ∙ was.is; below = was.below });
}
  where
    at_most : (o : Option ℕ) → present o ≤ 1
    at_most None = omega arith
    at_most (Some b) = omega arith

    none_here : times_ready r.0 ss + times_indexed r.0 ks ≡ 0
    none_here = omega (arith, split.once r.0, ready_popped r.0 r rs ss perm, counted_here r.0 r.0 refl, at_most (bounds r.0))

    all : All (λ (x : Reverse ℕ). IsBoundBelow lid (bounds x.0)) (r ∷ ss)
    all = All-permutation (λ (x : Reverse ℕ). IsBoundBelow lid (bounds x.0)) rs (r ∷ ss) perm split.below

-- the first that is ready comes before each other that has its bound below the position

indexed_high : (bounds : ℕ → Option ℕ) (lid a b : ℕ) (ks : List (ℕ × ℕ)) → All (λ x. bounds x.1 ≡ Some x.0) ks → All (λ x. lid ≤ x.0) ks → 1 ≤ times_indexed a ks → bounds a ≡ Some b → lid ≤ b
indexed_high bounds lid a b [] indexed high some is = absurd (omega (arith, some))
indexed_high bounds lid a b (k ∷ ks) indexed high some is = elim (cases_eq k.1 a) [
  | inl same ↦
      let bound : k.0 ≡ b = same_Some k.0 b (sym (All-head (λ (x : ℕ × ℕ). bounds x.1 ≡ Some x.0) k ks indexed) ∙ ap bounds same ∙ is) in
      omega (arith, bound, All-head (λ (x : ℕ × ℕ). lid ≤ x.0) k ks high)
  | inr other ↦ indexed_high bounds lid a b ks (All-tail (λ (x : ℕ × ℕ). bounds x.1 ≡ Some x.0) k ks indexed) (All-tail (λ (x : ℕ × ℕ). lid ≤ x.0) k ks high) (omega (arith, some, indexed-cons a k ks, counted_other k.1 a other)) is
]

ready_late : (a : ℕ) (r : Reverse ℕ) (rs : List (Reverse ℕ)) → IsUpperBound (λ x y. nat_cmp y.0 x.0) r rs → 1 ≤ times_ready a rs → r.0 ≤ a
ready_late a r [] upper some = absurd (omega (arith, some))
ready_late a r (s ∷ rs) upper some = elim (cases_eq s.0 a) [
  | inl same ↦ omega (arith, ge_from_not_lt s.0 r.0 upper.0, same)
  | inr other ↦ ready_late a r rs upper.1 (omega (arith, some, ready-cons a s rs, counted_other s.0 a other))
]

pub none_below : (bounds : ℕ → Option ℕ) (lid : ℕ) (ks : List (ℕ × ℕ)) → All (λ x. lid ≤ x.0) ks → IsSplit bounds ks [] lid → (a b : ℕ) → bounds a ≡ Some b → lid ≤ b
none_below bounds lid ks high split a b is = indexed_high bounds lid a b ks split.indexed high (omega (arith, split.once a, ap present is)) is

pub first_ready : (bounds : ℕ → Option ℕ) (lid : ℕ) (ks : List (ℕ × ℕ)) (r : Reverse ℕ) (rs ss : List (Reverse ℕ)) → All (λ x. lid ≤ x.0) ks → IsUpperBound (λ x y. nat_cmp y.0 x.0) r ss → IsPermutation rs (r ∷ ss) → IsSplit bounds ks rs lid → (a b : ℕ) → bounds a ≡ Some b → b < lid → r.0 ≤ a
first_ready bounds lid ks r rs ss high upper perm split a b is low = elim (cases_lt 0 (times_indexed a ks)) [
  | inl some ↦ absurd (omega (arith, low, indexed_high bounds lid a b ks split.indexed high some is))
  | inr none ↦ elim (cases_eq a r.0) [
    | inl same ↦ omega (arith, same)
    | inr other ↦ ready_late a r ss upper (omega (arith, none, split.once a, ap present is, ready_popped a r rs ss perm, counted_other r.0 a (λ e. other (sym e))))
  ]
]

pub ready_below : (bounds : ℕ → Option ℕ) (lid : ℕ) (ks : List (ℕ × ℕ)) (r : Reverse ℕ) (rs ss : List (Reverse ℕ)) → IsPermutation rs (r ∷ ss) → IsSplit bounds ks rs lid → IsBoundBelow lid (bounds r.0)
ready_below bounds lid ks r rs ss perm split = All-head (λ (x : Reverse ℕ). IsBoundBelow lid (bounds x.0)) r ss (All-permutation (λ (x : Reverse ℕ). IsBoundBelow lid (bounds x.0)) rs (r ∷ ss) perm split.below)

-- the first key was taken out
pub popped_first : (o : Option (ℕ × ℕ)) (ks rest : List (ℕ × ℕ)) (k : ℕ × ℕ) → Some k ≡ slice_get ks 0 → IfSome o (λ first. ks ≡ first ∷ rest) → (IsSome o ↔ (0 < length ks)) → ks ≡ k ∷ rest
popped_first o [] rest k is removal some = absurd (let e : Some k ≡ None = is in cc)
popped_first None (x ∷ xs) rest k is removal some = absurd (let e : false ≡ true = some.1 (omega arith) in false≢true e)
popped_first (Some first) (x ∷ xs) rest k is removal some = (let e : Some k ≡ Some x = is in let f : x ∷ xs ≡ first ∷ rest = removal in cc)

-- the bounds rise
pub none_high : (lid : ℕ) (ks : List (ℕ × ℕ)) → None ≡ slice_get ks 0 → All (λ x. lid ≤ x.0) ks
none_high lid [] is = λ k d inside. absurd (omega (arith, inside))
none_high lid (x ∷ xs) is = absurd (let e : None ≡ Some x = is in cc)

rest_high : (k : ℕ × ℕ) (lid : ℕ) (ks : List (ℕ × ℕ)) → lid ≤ k.0 → AllByRecursion (λ y. bound_order k y ≡ Less) ks → All (λ x. lid ≤ x.0) ks
rest_high k lid [] le after = λ i d inside. absurd (omega (arith, inside))
rest_high k lid (x ∷ xs) le after = All-cons (λ (y : ℕ × ℕ). lid ≤ y.0) x xs (elim (cases_lt x.0 k.0) [
  | inl low ↦ absurd (let e : Greater ≡ Less = ap (λ o. ordering_then o (nat_cmp k.1 x.1)) (nat_cmp_is k.0 x.0 Greater low) ∙ after.0 in cc)
  | inr high ↦ omega (arith, high, le)
]) (rest_high k lid xs le after.1)

pub all_high : (lid : ℕ) (ks : List (ℕ × ℕ)) (k : ℕ × ℕ) → Some k ≡ slice_get ks 0 → lid ≤ k.0 → IsStrictlySortedBy bound_order ks → All (λ x. lid ≤ x.0) ks
all_high lid [] k is le sorted = absurd (let e : Some k ≡ None = is in cc)
all_high lid (x ∷ xs) k is le sorted =
    let same : k ≡ x = same_Some k x is in
    let low : lid ≤ x.0 = omega (arith, le, ap (λ (y : ℕ × ℕ). y.0) same) in
    All-cons (λ (y : ℕ × ℕ). lid ≤ y.0) x xs low (rest_high x lid xs low (sorted_head bound_order x xs sorted))

pub at_most_one : (b : Bool) → cond b 1 0 ≤ 1
at_most_one true = omega arith
at_most_one false = omega arith
