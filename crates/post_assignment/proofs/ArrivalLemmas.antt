-- Values by arrival: the last one, and the first that may go in.
use Rattle.std.proofs.Common.{◌≡◌, ℕ, ◌+◌, ◌<◌, ◌≤◌, cond, ltb, true, false, List, [], ◌∷◌, ◌++◌, Option, Some, None, refl, ap, sym, ◌∙◌, inl, inr, arith}
use Rattle.std.specs.List.{All, AllByRecursion}
use Rattle.std.specs.List.Sorted.{IsStrictlySortedBy}
use Rattle.std.specs.Map.{keys_of, values_of, lookup, remove_entry}
use Rattle.std.specs.Option.{option_map}
use Rattle.std.specs.Ordering.{nat_cmp, is_eq, match_ordering}
use Rattle.std.specs.BTreeMap.{insert_entry, is_at}
use Rattle.std.specs.Cmp.{nat_cmp_is}
use Rattle.std.specs.declared.cmp.Ordering.TheVariants.{Less, Equal, Greater}
use Rattle.std.proofs.lemmas.Bool.{cases_lt, cases_eq, cond-true, cond-false, le-ltb, lt-ltb}
use Rattle.std.proofs.lemmas.List.Elements.{All-cons, All-head, All-tail, All-nil}
use Rattle.std.proofs.lemmas.Map.Keys.{sorted_head, sorted_tail}
use Rattle.std.proofs.lemmas.Option.{same_Some}
use Rattle.post_assignment.specs.declared.wait_list.Waiting.{Waiting}
use Rattle.post_assignment.specs.Waiting.{bound_at, first_below, without_first_below}

pub at_same : (a k : ℕ) → a ≡ k → is_at (nat_cmp a) k ≡ true
at_same a k same = ap is_eq (sym (nat_cmp_is a k Equal same))

pub at_other : (a k : ℕ) → (a ≡ k → ⊥) → is_at (nat_cmp a) k ≡ false
at_other a k other = elim (cases_lt a k) [
  | inl low ↦ ap is_eq (sym (nat_cmp_is a k Less low))
  | inr high ↦ let above : k < a = omega (arith, high, other) in ap is_eq (sym (nat_cmp_is a k Greater above))
]

less_is : (a k : ℕ) → nat_cmp a k ≡ Less → a < k
less_is a k less = elim (cases_lt a k) [
  | inl low ↦ low
  | inr high ↦ elim (cases_eq a k) [
    | inl same ↦ absurd (let e : Equal ≡ Less = nat_cmp_is a k Equal same ∙ less in cc)
    | inr other ↦ let above : k < a = omega (arith, high, other) in absurd (let e : Greater ≡ Less = nat_cmp_is a k Greater above ∙ less in cc)
  ]
]

pub none_some : {X : Type 0} (x : X) → None ≡ Some x → ⊥
none_some x is = absurd (cc)

module _ {T : Type 0} where
  found_here : (a : ℕ) (e : ℕ × Waiting T) (es : List (ℕ × Waiting T)) → a ≡ e.0 → lookup (is_at (nat_cmp a)) (e ∷ es) ≡ Some e.1
  found_here a e es same = cond-true (is_at (nat_cmp a) e.0) (Some e.1) (lookup (is_at (nat_cmp a)) es) (at_same a e.0 same)

  found_later : (a : ℕ) (e : ℕ × Waiting T) (es : List (ℕ × Waiting T)) → (a ≡ e.0 → ⊥) → lookup (is_at (nat_cmp a)) (e ∷ es) ≡ lookup (is_at (nat_cmp a)) es
  found_later a e es other = cond-false (is_at (nat_cmp a) e.0) (Some e.1) (lookup (is_at (nat_cmp a)) es) (at_other a e.0 other)

  -- an arrival after all is not there
  pub not_yet : (n : ℕ) (es : List (ℕ × Waiting T)) → All (λ a. a < n) (keys_of es) → lookup (is_at (nat_cmp n)) es ≡ None
  not_yet n [] early = refl
  not_yet n (e ∷ es) early = found_later n e es (λ is. absurd (omega (arith, is, All-head (λ (a : ℕ). a < n) e.0 (keys_of es) early))) ∙ not_yet n es (All-tail (λ (a : ℕ). a < n) e.0 (keys_of es) early)

  -- it goes last
  pub inserted_last : (n : ℕ) (w : Waiting T) (es : List (ℕ × Waiting T)) → All (λ a. a < n) (keys_of es) → insert_entry nat_cmp es n w ≡ es ++ (n, w) ∷ []
  inserted_last n w [] early = refl
  inserted_last n w (e ∷ es) early =
      let above : e.0 < n = All-head (λ (a : ℕ). a < n) e.0 (keys_of es) early in
      ap (λ o. match_ordering o ((n, w) ∷ e ∷ es) ((e.0, w) ∷ es) (e ∷ insert_entry nat_cmp es n w)) (sym (nat_cmp_is n e.0 Greater above))
      ∙ ap (λ xs. e ∷ xs) (inserted_last n w es (All-tail (λ (a : ℕ). a < n) e.0 (keys_of es) early))

  pub last_values : (n : ℕ) (w : Waiting T) (es : List (ℕ × Waiting T)) → values_of (es ++ (n, w) ∷ []) ≡ values_of es ++ w ∷ []
  last_values n w [] = refl
  last_values n w (e ∷ es) = ap (λ xs. e.1 ∷ xs) (last_values n w es)

  pub last_early : (n : ℕ) (w : Waiting T) (es : List (ℕ × Waiting T)) → All (λ a. a < n) (keys_of es) → All (λ a. a < n + 1) (keys_of (es ++ (n, w) ∷ []))
  last_early n w [] early = All-cons (λ (a : ℕ). a < n + 1) n [] (omega arith) (All-nil (λ (a : ℕ). a < n + 1))
  last_early n w (e ∷ es) early = All-cons (λ (a : ℕ). a < n + 1) e.0 (keys_of (es ++ (n, w) ∷ [])) (omega (arith, All-head (λ (a : ℕ). a < n) e.0 (keys_of es) early)) (last_early n w es (All-tail (λ (a : ℕ). a < n) e.0 (keys_of es) early))

  -- and is found
  pub last_found : (n : ℕ) (w : Waiting T) (es : List (ℕ × Waiting T)) → All (λ a. a < n) (keys_of es) → lookup (is_at (nat_cmp n)) (es ++ (n, w) ∷ []) ≡ Some w
  last_found n w [] early = found_here n (n, w) [] refl
  last_found n w (e ∷ es) early = found_later n e (es ++ (n, w) ∷ []) (λ is. absurd (omega (arith, is, All-head (λ (a : ℕ). a < n) e.0 (keys_of es) early))) ∙ last_found n w es (All-tail (λ (a : ℕ). a < n) e.0 (keys_of es) early)

  pub others_found : (n a : ℕ) (w : Waiting T) (es : List (ℕ × Waiting T)) → (a ≡ n → ⊥) → lookup (is_at (nat_cmp a)) (es ++ (n, w) ∷ []) ≡ lookup (is_at (nat_cmp a)) es
  others_found n a w [] other = found_later a (n, w) [] other
  others_found n a w (e ∷ es) other = ap (cond (is_at (nat_cmp a) e.0) (Some e.1)) (others_found n a w es other)

  -- taken back, all is as before
  pub taken_back : (n : ℕ) (w : Waiting T) (es : List (ℕ × Waiting T)) → All (λ a. a < n) (keys_of es) → remove_entry (is_at (nat_cmp n)) (es ++ (n, w) ∷ []) ≡ es
  taken_back n w [] early = cond-true (is_at (nat_cmp n) n) [] ((n, w) ∷ []) (at_same n n refl)
  taken_back n w (e ∷ es) early =
      cond-false (is_at (nat_cmp n) e.0) (es ++ (n, w) ∷ []) (e ∷ remove_entry (is_at (nat_cmp n)) (es ++ (n, w) ∷ [])) (at_other n e.0 (λ is. absurd (omega (arith, is, All-head (λ (a : ℕ). a < n) e.0 (keys_of es) early))))
      ∙ ap (λ xs. e ∷ xs) (taken_back n w es (All-tail (λ (a : ℕ). a < n) e.0 (keys_of es) early))

  pub removed_early : (a n : ℕ) (es : List (ℕ × Waiting T)) → All (λ b. b < n) (keys_of es) → All (λ b. b < n) (keys_of (remove_entry (is_at (nat_cmp a)) es))
  removed_early a n [] early = early
  removed_early a n (e ∷ es) early = elim (is_at (nat_cmp a) e.0) as (λ b. All (λ (x : ℕ). x < n) (keys_of (cond b es (e ∷ remove_entry (is_at (nat_cmp a)) es)))) [
    | true ↦ All-tail (λ (x : ℕ). x < n) e.0 (keys_of es) early
    | false ↦ All-cons (λ (x : ℕ). x < n) e.0 (keys_of (remove_entry (is_at (nat_cmp a)) es)) (All-head (λ (x : ℕ). x < n) e.0 (keys_of es) early) (removed_early a n es (All-tail (λ (x : ℕ). x < n) e.0 (keys_of es) early))
  ]

  -- what is found after the first entry came later
  came_later : (a k : ℕ) (w : Waiting T) (es : List (ℕ × Waiting T)) → AllByRecursion (λ y. nat_cmp k y ≡ Less) (keys_of es) → lookup (is_at (nat_cmp a)) es ≡ Some w → k < a
  came_later a k w [] after is = absurd (none_some w is)
  came_later a k w (e ∷ es) after is = elim (cases_eq a e.0) [
    | inl same ↦ omega (arith, less_is k e.0 after.0, same)
    | inr other ↦ came_later a k w es after.1 (sym (found_later a e es other) ∙ is)
  ]

  -- the least arrival that has its bound below the position is that of the first such value in the list

  pub first_in : (r lid : ℕ) (w : Waiting T) (es : List (ℕ × Waiting T)) → IsStrictlySortedBy nat_cmp (keys_of es) → lookup (is_at (nat_cmp r)) es ≡ Some w → w.bound < lid → ((a b : ℕ) → bound_at es a ≡ Some b → b < lid → r ≤ a)
      → (first_below lid (values_of es) ≡ Some w) × (values_of (remove_entry (is_at (nat_cmp r)) es) ≡ without_first_below lid (values_of es))
  first_in r lid w [] sorted is low least = absurd (none_some w is)
  first_in r lid w (e ∷ es) sorted is low least = elim (cases_eq r e.0) [
    | inl same ↦
        let here : e.1 ≡ w = same_Some e.1 w (sym (found_here r e es same) ∙ is) in
        let below : ltb e.1.bound lid ≡ true = lt-ltb e.1.bound lid (omega (arith, low, ap (λ (x : Waiting T). x.bound) here)) in (
          cond-true (ltb e.1.bound lid) (Some e.1) (first_below lid (values_of es)) below ∙ ap Some here,
          ap values_of (cond-true (is_at (nat_cmp r) e.0) es (e ∷ remove_entry (is_at (nat_cmp r)) es) (at_same r e.0 same)) ∙ sym (cond-true (ltb e.1.bound lid) (values_of es) (e.1 ∷ without_first_below lid (values_of es)) below),
        )
    | inr other ↦
        let there : lookup (is_at (nat_cmp r)) es ≡ Some w = sym (found_later r e es other) ∙ is in
        let after : e.0 < r = came_later r e.0 w es (sorted_head nat_cmp e.0 (keys_of es) sorted) there in
        let bound_here : bound_at (e ∷ es) e.0 ≡ Some e.1.bound = ap (option_map (λ (x : Waiting T). x.bound)) (found_here e.0 e es refl) in
        let high : lid ≤ e.1.bound = elim (cases_lt e.1.bound lid) [
          | inl under ↦ absurd (omega (arith, after, least e.0 e.1.bound bound_here under))
          | inr over ↦ over
        ] in
        let above : ltb e.1.bound lid ≡ false = le-ltb e.1.bound lid high in
        let rest = first_in r lid w es (sorted_tail nat_cmp e.0 (keys_of es) sorted) there low (λ a b is_at_a under. least a b (passed a b is_at_a) under) in (
          cond-false (ltb e.1.bound lid) (Some e.1) (first_below lid (values_of es)) above ∙ rest.0,
          ap values_of (cond-false (is_at (nat_cmp r) e.0) es (e ∷ remove_entry (is_at (nat_cmp r)) es) (at_other r e.0 other)) ∙ ap (λ xs. e.1 ∷ xs) rest.1 ∙ sym (cond-false (ltb e.1.bound lid) (values_of es) (e.1 ∷ without_first_below lid (values_of es)) above),
        )
  ]
    where
      later_bound : (a b : ℕ) (o : Option (Waiting T)) → lookup (is_at (nat_cmp a)) es ≡ o → option_map (λ (x : Waiting T). x.bound) o ≡ Some b → bound_at (e ∷ es) a ≡ Some b
      later_bound a b None is_o bound = absurd (none_some b bound)
      later_bound a b (Some v) is_o bound =
          let after : e.0 < a = came_later a e.0 v es (sorted_head nat_cmp e.0 (keys_of es) sorted) is_o in
          ap (option_map (λ (x : Waiting T). x.bound)) (found_later a e es (λ same. absurd (omega (arith, same, after))) ∙ is_o) ∙ bound

      passed : (a b : ℕ) → bound_at es a ≡ Some b → bound_at (e ∷ es) a ≡ Some b
      passed a b bound = later_bound a b (lookup (is_at (nat_cmp a)) es) refl bound

  -- where no bound is below the position, none goes in

  pub none_in : (lid : ℕ) (es : List (ℕ × Waiting T)) → IsStrictlySortedBy nat_cmp (keys_of es) → ((a b : ℕ) → bound_at es a ≡ Some b → lid ≤ b)
      → (first_below lid (values_of es) ≡ None) × (without_first_below lid (values_of es) ≡ values_of es)
  none_in lid [] sorted high = (refl, refl)
  none_in lid (e ∷ es) sorted high =
      let bound_here : bound_at (e ∷ es) e.0 ≡ Some e.1.bound = ap (option_map (λ (x : Waiting T). x.bound)) (found_here e.0 e es refl) in
      let above : ltb e.1.bound lid ≡ false = le-ltb e.1.bound lid (high e.0 e.1.bound bound_here) in
      let rest = none_in lid es (sorted_tail nat_cmp e.0 (keys_of es) sorted) (λ a b is. high a b (passed a b (lookup (is_at (nat_cmp a)) es) refl is)) in (
        cond-false (ltb e.1.bound lid) (Some e.1) (first_below lid (values_of es)) above ∙ rest.0,
        cond-false (ltb e.1.bound lid) (values_of es) (e.1 ∷ without_first_below lid (values_of es)) above ∙ ap (λ xs. e.1 ∷ xs) rest.1,
      )
    where
      passed : (a b : ℕ) (o : Option (Waiting T)) → lookup (is_at (nat_cmp a)) es ≡ o → option_map (λ (x : Waiting T). x.bound) o ≡ Some b → bound_at (e ∷ es) a ≡ Some b
      passed a b None is_o bound = absurd (none_some b bound)
      passed a b (Some v) is_o bound =
          let after : e.0 < a = came_later a e.0 v es (sorted_head nat_cmp e.0 (keys_of es) sorted) is_o in
          ap (option_map (λ (x : Waiting T). x.bound)) (found_later a e es (λ same. absurd (omega (arith, same, after))) ∙ is_o) ∙ bound
