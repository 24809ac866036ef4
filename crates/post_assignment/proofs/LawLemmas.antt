-- The laws of appends.
use Rattle.std.proofs.Common.{◌≡◌, ℕ, ◌+◌, ◌<◌, ◌≤◌, cond, ltb, Bool, List, [], ◌∷◌, length, Some, None, ap, sym, ◌∙◌, subst, inl, inr, arith}
use Rattle.std.specs.List.{All, sum_by}
use Rattle.std.proofs.lemmas.Bool.{cases_Bool, cond-true, cond-false, cond_both, ltb-true, ltb-false}
use Rattle.std.proofs.lemmas.List.Elements.{All-cons, All-head, All-nil, All-push, All-tail}
use Rattle.std.proofs.lemmas.List.Sums.{sum_by-cons, sum_by_push}
use Rattle.std.proofs.lemmas.Option.{same_Some}
use Rattle.maintainer.specs.declared.slot.Slot.{Slot}
use Rattle.maintainer.specs.Maintainers.{MaintainerState, placed, put_in}
use Rattle.maintainer.proofs.SlotLemmas.{All-put_in}
use Rattle.post_assignment.specs.declared.wait_list.Waiting.{Waiting}
use Rattle.post_assignment.specs.Waiting.{first_below, is_below, without_first_below}
use Rattle.post_assignment.specs.Appending.{AppenderState, IsFirst, StandsAbove, appended, kept, next_lid, times_of}
use Rattle.post_assignment.proofs.BoundLemmas.{released_keeps}

module _ {T : Type 0} where
  pub first_is : (lid : ℕ) (ws : List (Waiting T)) (w : Waiting T) → first_below lid ws ≡ Some w → IsFirst lid ws w
  first_is lid [] w is = absurd (let e : None ≡ Some w = is in cc)
  first_is lid (v ∷ ws) w is = elim (cases_Bool (is_below lid v)) [
    | inl low ↦
        let here : v ≡ w = same_Some v w (sym (cond-true (is_below lid v) (Some v) (first_below lid ws) low) ∙ is) in
        record {
          before = [];
          after = ws;
          parts = ap (λ x. x ∷ ws) here;
          later = All-nil (λ (x : Waiting T). lid ≤ x.bound);
          below = omega (arith, ltb-true v.bound lid low, ap (λ (x : Waiting T). x.bound) here);
          rest = cond-true (is_below lid v) ws (v ∷ without_first_below lid ws) low;
        }
    | inr high ↦
        let more = first_is lid ws w (sym (cond-false (is_below lid v) (Some v) (first_below lid ws) high) ∙ is) in
        record {
          before = v ∷ more.before;
          after = more.after;
          parts = ap (λ xs. v ∷ xs) more.parts;
          later = All-cons (λ (x : Waiting T). lid ≤ x.bound) v more.before (ltb-false v.bound lid high) more.later;
          below = more.below;
          rest = cond-false (is_below lid v) ws (v ∷ without_first_below lid ws) high ∙ ap (λ xs. v ∷ xs) more.rest;
        }
  ]

  -- sums over what stands and waits

  sum-put_in : (f : Slot T → ℕ) (e : Slot T) (es : List (Slot T)) → sum_by f (put_in e es) ≡ sum_by f es + f e
  sum-put_in f e [] = omega (arith, sum_by-cons f e [])
  sum-put_in f e (x ∷ xs) = cond_both (ltb e.lid x.lid) (e ∷ x ∷ xs) (x ∷ put_in e xs) (λ es. sum_by f es ≡ sum_by f (x ∷ xs) + f e)
      (λ _. omega (arith, sum_by-cons f e (x ∷ xs)))
      (λ _. omega (arith, sum_by-cons f x (put_in e xs), sum_by-cons f x xs, sum-put_in f e xs))

  sum-without : (f : Waiting T → ℕ) (lid : ℕ) (ws : List (Waiting T)) (w : Waiting T) → first_below lid ws ≡ Some w → sum_by f ws ≡ sum_by f (without_first_below lid ws) + f w
  sum-without f lid [] w is = absurd (let e : None ≡ Some w = is in cc)
  sum-without f lid (v ∷ ws) w is = elim (cases_Bool (is_below lid v)) [
    | inl low ↦
        let here : v ≡ w = same_Some v w (sym (cond-true (is_below lid v) (Some v) (first_below lid ws) low) ∙ is) in
        omega (arith, sum_by-cons f v ws, ap f here, ap (sum_by f) (cond-true (is_below lid v) ws (v ∷ without_first_below lid ws) low))
    | inr high ↦
        let rest = sum-without f lid ws w (sym (cond-false (is_below lid v) (Some v) (first_below lid ws) high) ∙ is) in
        omega (arith, rest, sum_by-cons f v ws, sum_by-cons f v (without_first_below lid ws), ap (sum_by f) (cond-false (is_below lid v) ws (v ∷ without_first_below lid ws) high))
  ]

  placed_times : (test : T → Bool) (m : MaintainerState T) (ws : List (Waiting T)) (lid : ℕ) (value : T) → times_of test (record { maintainer = placed m lid value; waiting = ws }) ≡ times_of test (record { maintainer = m; waiting = ws }) + cond (test value) 1 0
  placed_times test m ws lid value = omega (arith, sum-put_in (λ (e : Slot T). cond (test e.value) 1 0) (record { lid = lid; value = value }) m.entries)

  pub appended_times : (test : T → Bool) (s : AppenderState T) (value : T) → times_of test (appended s value).state ≡ times_of test s + cond (test value) 1 0
  appended_times test s value = released_keeps (λ m ws. times_of test (record { maintainer = m; waiting = ws }) ≡ times_of test s + cond (test value) 1 0)
      (λ m ws w is same. omega (arith, same, placed_times test m (without_first_below (next_lid m) ws) (next_lid m) w.value, sum-without (λ (x : Waiting T). cond (test x.value) 1 0) (next_lid m) ws w is))
      (length s.waiting) (placed s.maintainer (next_lid s.maintainer) value) s.waiting (placed_times test s.maintainer s.waiting (next_lid s.maintainer) value)

  pub kept_times : (test : T → Bool) (s : AppenderState T) (bound : ℕ) (value : T) → times_of test (kept s bound value) ≡ times_of test s + cond (test value) 1 0
  kept_times test s bound value = omega (arith, sum_by_push (λ (x : Waiting T). cond (test x.value) 1 0) s.waiting (record { bound = bound; value = value }))

  -- what stands is above its bound

  pub All-without : (P : Waiting T → Type 0) (lid : ℕ) (ws : List (Waiting T)) → All P ws → All P (without_first_below lid ws)
  All-without P lid [] all = all
  All-without P lid (v ∷ ws) all = cond_both (is_below lid v) ws (v ∷ without_first_below lid ws) (All P) (λ _. All-tail P v ws all) (λ _. All-cons P v (without_first_below lid ws) (All-head P v ws all) (All-without P lid ws (All-tail P v ws all)))

  pub All-first : (P : Waiting T → Type 0) (lid : ℕ) (ws : List (Waiting T)) (w : Waiting T) → first_below lid ws ≡ Some w → All P ws → P w
  All-first P lid [] w is all = absurd (let e : None ≡ Some w = is in cc)
  All-first P lid (v ∷ ws) w is all = elim (cases_Bool (is_below lid v)) [
    | inl low ↦ subst P (same_Some v w (sym (cond-true (is_below lid v) (Some v) (first_below lid ws) low) ∙ is)) (All-head P v ws all)
    | inr high ↦ All-first P lid ws w (sym (cond-false (is_below lid v) (Some v) (first_below lid ws) high) ∙ is) (All-tail P v ws all)
  ]

  placed_above : (rank : T → ℕ) (m : MaintainerState T) (lid : ℕ) (value : T) → All (λ e. rank e.value < e.lid) m.entries → rank value < lid → All (λ e. rank e.value < e.lid) (placed m lid value).entries
  placed_above rank m lid value all above = All-put_in (λ (e : Slot T). rank e.value < e.lid) (record { lid = lid; value = value }) m.entries above all

  pub appended_above : (rank : T → ℕ) (s : AppenderState T) (value : T) → StandsAbove rank s → rank value < next_lid s.maintainer → StandsAbove rank (appended s value).state
  appended_above rank s value is above = released_keeps (λ m ws. StandsAbove rank (record { maintainer = m; waiting = ws }))
      (λ m ws w first all. (
      let low : w.bound < next_lid m = (first_is (next_lid m) ws w first).below in
      record {
        placed = placed_above rank m (next_lid m) w.value all.placed (omega (arith, low, All-first (λ (x : Waiting T). rank x.value ≤ x.bound) (next_lid m) ws w first all.waits));
        waits = All-without (λ (x : Waiting T). rank x.value ≤ x.bound) (next_lid m) ws all.waits;
      }))
      (length s.waiting) (placed s.maintainer (next_lid s.maintainer) value) s.waiting (record { placed = placed_above rank s.maintainer (next_lid s.maintainer) value is.placed above; waits = is.waits })

  pub kept_above : (rank : T → ℕ) (s : AppenderState T) (bound : ℕ) (value : T) → StandsAbove rank s → rank value ≤ bound → StandsAbove rank (kept s bound value)
  kept_above rank s bound value is low = record { placed = is.placed; waits = All-push (λ (x : Waiting T). rank x.value ≤ x.bound) s.waiting (record { bound = bound; value = value }) is.waits low }
