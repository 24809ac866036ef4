-- A list of waiting values after a value came or went.
use Rattle.std.proofs.Common.{◌≡◌, ℕ, ◌+◌, ◌<◌, ◌≤◌, cond, List, [], ◌∷◌, ◌++◌, length, Option, Some, None, refl, ap, sym, ◌∙◌, subst, arith}
use Rattle.std.specs.List.{All}
use Rattle.std.specs.List.Sorted.{IsPermutation, IsStrictlySortedBy}
use Rattle.std.specs.Map.{keys_of, values_of, lookup, remove_entry}
use Rattle.std.specs.Option.{option_map}
use Rattle.std.specs.Ordering.{nat_cmp}
use Rattle.std.specs.BTreeMap.{is_at}
use Rattle.std.specs.BTreeSet.{insert_key}
use Rattle.std.specs.BinaryHeap.{IsHeap, IsUpperBound}
use Rattle.std.specs.declared.cmp.Reverse.{Reverse}
use Rattle.std.proofs.lemmas.Bool.{cond-true, cond-false}
use Rattle.post_assignment.specs.declared.wait_list.Waiting.{Waiting}
use Rattle.post_assignment.specs.Waiting.{AreTied, IsBoundBelow, IsSplit, WaitState, bound_at, first_below, without_first_below}
use Rattle.post_assignment.proofs.SplitLemmas.{bound_order, first_ready, grown, none_below, raised, ready_below, shrunk, unlimited}
use Rattle.post_assignment.proofs.ArrivalLemmas.{at_other, at_same, first_in, last_early, last_found, not_yet, none_in, none_some, others_found, removed_early, taken_back}

no_items : {X : Type 0} (xs : List X) → length xs ≡ 0 → xs ≡ []
no_items [] none = refl
no_items (x ∷ xs) none = absurd (omega (arith, none))

module _ {T : Type 0} where
  pub tied_pushed : (es fs : List (ℕ × Waiting T)) (index more : List (ℕ × ℕ)) (ready : List (Reverse ℕ)) (limit n : ℕ) (w : Waiting T) → AreTied es index ready limit n
      → fs ≡ es ++ (n, w) ∷ [] → IsStrictlySortedBy nat_cmp (keys_of fs) → more ≡ insert_key bound_order index (w.bound, n) → AreTied fs more ready limit (n + 1)
  tied_pushed es fs index more ready limit n w tied is_fs sorted is_more = record {
    sorted = sorted;
    early = subst (λ (xs : List (ℕ × Waiting T)). All (λ a. a < n + 1) (keys_of xs)) (sym is_fs) (last_early n w es tied.early);
    split = subst (λ (xs : List (ℕ × Waiting T)). IsSplit (bound_at xs) more ready limit) (sym is_fs) (subst (λ ks. IsSplit (bound_at (es ++ (n, w) ∷ [])) ks ready limit) (sym is_more)
        (grown (bound_at es) (bound_at (es ++ (n, w) ∷ [])) (w.bound, n) index ready limit
        (ap (option_map (λ (x : Waiting T). x.bound)) (not_yet n es tied.early))
        (ap (option_map (λ (x : Waiting T). x.bound)) (last_found n w es tied.early))
        (λ a other. ap (option_map (λ (x : Waiting T). x.bound)) (others_found n a w es other))
        tied.split));
    heap = tied.heap;
  }

  pub record HasNone (es : List (ℕ × Waiting T)) (index : List (ℕ × ℕ)) (ready : List (Reverse ℕ)) (lid n : ℕ) : Type 0 where
    pub first : first_below lid (values_of es) ≡ None
    pub rest : values_of es ≡ without_first_below lid (values_of es)
    pub tied : AreTied es index ready 0 n

  pub none_taken : (es : List (ℕ × Waiting T)) (index left : List (ℕ × ℕ)) (ready then : List (Reverse ℕ)) (limit lid n : ℕ) → AreTied es index ready limit n → limit ≤ lid
      → ((bounds : ℕ → Option ℕ) → IsSplit bounds index ready lid → IsSplit bounds left then lid) → (IsHeap (λ x y. nat_cmp y.0 x.0) ready → IsHeap (λ x y. nat_cmp y.0 x.0) then) → All (λ k. lid ≤ k.0) left → length then ≡ 0
      → HasNone es left then lid n
  none_taken es index left ready then limit lid n tied le splits heaps high none =
      let empty : then ≡ [] = no_items then none in
      let split : IsSplit (bound_at es) left [] lid = subst (λ rs. IsSplit (bound_at es) left rs lid) empty (splits (bound_at es) (raised (bound_at es) index ready limit lid le tied.split)) in
      let is = none_in lid es tied.sorted (none_below (bound_at es) lid left high split) in
      record {
        first = is.0;
        rest = sym is.1;
        tied = record {
          sorted = tied.sorted;
          early = tied.early;
          split = subst (λ rs. IsSplit (bound_at es) left rs 0) (sym empty) (unlimited (bound_at es) left lid 0 split);
          heap = heaps tied.heap;
        };
      }

  pub record HasTaken (es fs : List (ℕ × Waiting T)) (index : List (ℕ × ℕ)) (ready : List (Reverse ℕ)) (r : Reverse ℕ) (lid n : ℕ) : Type 0 where
    pub value : Waiting T
    pub found : lookup (is_at (nat_cmp r.0)) es ≡ Some value
    pub first : first_below lid (values_of es) ≡ Some value
    pub rest : values_of fs ≡ without_first_below lid (values_of es)
    pub tied : AreTied fs index ready lid n

  -- what is found at the arrival that has this bound
  found_at : (o : Option (Waiting T)) (lid : ℕ) → IsBoundBelow lid (option_map (λ (x : Waiting T). x.bound) o) → (w : Waiting T) × (o ≡ Some w) × (w.bound < lid)
  found_at None lid is = absurd (none_some is.value is.is)
  found_at (Some w) lid is = (w, refl, subst (λ (o : Option ℕ). bound_of o < lid) (sym is.is) is.below)
    where
      bound_of : Option ℕ → ℕ
      bound_of None = 0
      bound_of (Some b) = b

  pub one_taken : (es fs : List (ℕ × Waiting T)) (index left : List (ℕ × ℕ)) (ready then rest : List (Reverse ℕ)) (r : Reverse ℕ) (limit lid n : ℕ) → AreTied es index ready limit n → limit ≤ lid
      → ((bounds : ℕ → Option ℕ) → IsSplit bounds index ready lid → IsSplit bounds left then lid) → (IsHeap (λ x y. nat_cmp y.0 x.0) ready → IsHeap (λ x y. nat_cmp y.0 x.0) then) → All (λ k. lid ≤ k.0) left
      → IsPermutation then (r ∷ rest) → (IsHeap (λ x y. nat_cmp y.0 x.0) then → IsHeap (λ x y. nat_cmp y.0 x.0) rest × IsUpperBound (λ x y. nat_cmp y.0 x.0) r then) → (IsHeap (λ x y. nat_cmp y.0 x.0) then → IsUpperBound (λ x y. nat_cmp y.0 x.0) r rest)
      → fs ≡ remove_entry (is_at (nat_cmp r.0)) es → IsStrictlySortedBy nat_cmp (keys_of fs) → ((q : ℕ) → lookup (is_at (nat_cmp q)) fs ≡ cond (is_at (nat_cmp r.0) q) None (lookup (is_at (nat_cmp q)) es))
      → HasTaken es fs left rest r lid n
  one_taken es fs index left ready then rest r limit lid n tied le splits heaps high perm pops top is_fs sorted updates =
      let split : IsSplit (bound_at es) left then lid = splits (bound_at es) (raised (bound_at es) index ready limit lid le tied.split) in
      let is = found_at (lookup (is_at (nat_cmp r.0)) es) lid (ready_below (bound_at es) lid left r then rest perm split) in
      let taken = first_in r.0 lid is.0 es tied.sorted is.1 is.2 (first_ready (bound_at es) lid left r then rest high (top (heaps tied.heap)) perm split) in
      record {
        value = is.0;
        found = is.1;
        first = taken.0;
        rest = ap values_of is_fs ∙ taken.1;
        tied = record {
          sorted = sorted;
          early = subst (λ (xs : List (ℕ × Waiting T)). All (λ a. a < n) (keys_of xs)) (sym is_fs) (removed_early r.0 n es tied.early);
          split = shrunk (bound_at es) (bound_at fs) r left then rest lid perm
              (ap (option_map (λ (x : Waiting T). x.bound)) (updates r.0 ∙ cond-true (is_at (nat_cmp r.0) r.0) None (lookup (is_at (nat_cmp r.0)) es) (at_same r.0 r.0 refl)))
              (λ a other. ap (option_map (λ (x : Waiting T). x.bound)) (updates a ∙ cond-false (is_at (nat_cmp r.0) a) None (lookup (is_at (nat_cmp a)) es) (at_other r.0 a (λ e. other (sym e)))))
              split;
          heap = (pops (heaps tied.heap)).0;
        };
      }

  -- the value that was found is the first
  pub value_found : (o : Option (Waiting T)) (w v : Waiting T) → o ≡ Some w → o ≡ Some v → w ≡ v
  value_found o w v is also = (let e : Some w ≡ Some v = sym is ∙ also in cc)

  pub tied_grown : (es fs : List (ℕ × Waiting T)) (index more : List (ℕ × ℕ)) (ready now : List (Reverse ℕ)) (limit n m : ℕ) (w : Waiting T) → AreTied es index ready limit n
      → fs ≡ es ++ (n, w) ∷ [] → IsStrictlySortedBy nat_cmp (keys_of fs) → more ≡ insert_key bound_order index (w.bound, n) → now ≡ ready → m ≡ n + 1 → AreTied fs more now limit m
  tied_grown es fs index more ready now limit n m w tied is_fs sorted is_more is_now is_m =
      subst (λ k. AreTied fs more now limit k) (sym is_m) (subst (λ rs. AreTied fs more rs limit (n + 1)) (sym is_now) (tied_pushed es fs index more ready limit n w tied is_fs sorted is_more))

  -- a value that came and went again

  pub record HasBack (es gone : List (ℕ × Waiting T)) (w : Waiting T) (o : Option (Waiting T)) : Type 0 where
    pub found : o ≡ Some w
    pub same : gone ≡ es

  pub came_back : (es fs gone : List (ℕ × Waiting T)) (n : ℕ) (w : Waiting T) (o : Option (Waiting T)) → All (λ a. a < n) (keys_of es) → fs ≡ es ++ (n, w) ∷ [] → o ≡ lookup (is_at (nat_cmp n)) fs → gone ≡ remove_entry (is_at (nat_cmp n)) fs → HasBack es gone w o
  came_back es fs gone n w o early is_fs is_o is_gone = record {
    found = is_o ∙ ap (lookup (is_at (nat_cmp n))) is_fs ∙ last_found n w es early;
    same = is_gone ∙ ap (remove_entry (is_at (nat_cmp n))) is_fs ∙ taken_back n w es early;
  }

  pub tied_same : (es fs : List (ℕ × Waiting T)) (index left : List (ℕ × ℕ)) (ready now : List (Reverse ℕ)) (limit n : ℕ) → AreTied es index ready limit n → fs ≡ es → left ≡ index → now ≡ ready → AreTied fs left now limit n
  tied_same es fs index left ready now limit n tied is_fs is_left is_now =
      subst (λ xs. AreTied xs left now limit n) (sym is_fs) (subst (λ ks. AreTied es ks now limit n) (sym is_left) (subst (λ rs. AreTied es index rs limit n) (sym is_now) tied))

  pub none_is : (o : Option (Waiting T)) (w : Waiting T) → o ≡ None → o ≡ Some w → ⊥
  none_is o w is also = none_some w (sym is ∙ also)

  pub seen_state : (s : WaitState T) (limit other : ℕ) (ws vs : List (Waiting T)) → record { limit = limit; waiting = ws } ≡ s → other ≡ s.limit → vs ≡ s.waiting → record { limit = other; waiting = vs } ≡ s
  seen_state s limit other ws vs is is_limit is_waiting = λ i. record { limit = is_limit i; waiting = is_waiting i }

  pub seen_back : (s : WaitState T) (limit : ℕ) (es gone : List (ℕ × Waiting T)) → record { limit = limit; waiting = values_of es } ≡ s → gone ≡ es → record { limit = limit; waiting = values_of gone } ≡ s
  seen_back s limit es gone is same = ap (λ xs. record { limit = limit; waiting = values_of xs }) same ∙ is

  -- what is seen of the values is what stands in the entries
  pub seen_waiting : (s : WaitState T) (limit : ℕ) (ws : List (Waiting T)) → record { limit = limit; waiting = ws } ≡ s → ws ≡ s.waiting
  seen_waiting s limit ws is = ap (λ (x : WaitState T). x.waiting) is

  pub seen_limit : (s : WaitState T) (limit lid : ℕ) (ws : List (Waiting T)) → record { limit = limit; waiting = ws } ≡ s → s.limit ≤ lid → limit ≤ lid
  seen_limit s limit lid ws is le = omega (arith, ap (λ (x : WaitState T). x.limit) is, le)
