-- Collecting, as the code has it: a slot is removed, and its position is inserted among those that are gone.
use Rattle.std.proofs.Common.{◌≡◌, ℕ, zero, suc, ◌^◌, ◌<◌, ◌≤◌, Bool, true, eqb, not, List, [], ◌∷◌, length, get_or, Some, IsSome, refl, ap, ap₂, sym, ◌∙◌, subst, inl, inr, arith}
use Rattle.std.specs.List.{All, AllWithin, filter, insert, remove}
use Rattle.std.proofs.lemmas.Bool.{cases_lt, cases_eq, eq-eqb, ne_eqb, cond-true, cond-false}
use Rattle.std.proofs.lemmas.List.{get_or_default}
use Rattle.std.proofs.lemmas.List.Elements.{All-filter, All-head, All-tail}
use Rattle.flstore_rounds.specs.Epochs.{EpochList}
use Rattle.maintainer.specs.declared.slot.Slot.{Slot}
use Rattle.maintainer.specs.Marks.{IsMarkOf}
use Rattle.maintainer.specs.Maintainers.{AreKept, AreLetGo, AreRising, IsFilled, IsFilledBy, IsOwnedBy, IsSound, MaintainerState, collected, put_position, times_in, value_at}
use Rattle.maintainer.proofs.CountLemmas.{entry_counted, entry_there, rising-tail, times_in-others, times_in-others_same}
use Rattle.maintainer.proofs.MarkLemmas.{mark_same}
use Rattle.maintainer.proofs.PositionLemmas.{All-put_position, insert_is_put_position}
use Rattle.maintainer.proofs.Rising.{Rises, rises-insert, rises-remove}
use Rattle.maintainer.proofs.SlotLemmas.{value_at-here}
use Rattle.maintainer.proofs.StateLemmas.{collected_fills, collected_was, value_at-some}

module _ {T : Type 0} where
  filter_all : (test : Slot T → Bool) (es : List (Slot T)) → All (λ e. test e ≡ true) es → filter test es ≡ es
  filter_all test [] all = refl
  filter_all test (x ∷ xs) all =
      cond-true (test x) (x ∷ filter test xs) (filter test xs) (All-head (λ e. test e ≡ true) x xs all) ∙ ap (λ ys. x ∷ ys) (filter_all test xs (All-tail (λ e. test e ≡ true) x xs all))

  -- the slot that has p is the only one
  remove_is_filter : (p i : ℕ) (es : List (Slot T)) → i < length es → AreRising es → ((d : Slot T) → (get_or es i d).lid ≡ p) → remove es i ≡ filter (λ e. not (eqb e.lid p)) es
  remove_is_filter p i [] within rising is = absurd (omega arith)
  remove_is_filter p zero (x ∷ xs) within rising is =
      let others : All (λ (e : Slot T). not (eqb e.lid p) ≡ true) xs = λ k d inside. ap not (ne_eqb (get_or xs k d).lid p (λ same. absurd (omega (arith, is d, rising.below 0 (suc k) d (omega arith) (omega arith))))) in
      sym (cond-false (not (eqb x.lid p)) (x ∷ filter (λ e. not (eqb e.lid p)) xs) (filter (λ e. not (eqb e.lid p)) xs) (ap not (eq-eqb x.lid p (is x)))
      ∙ filter_all (λ e. not (eqb e.lid p)) xs others)
  remove_is_filter p (suc i) (x ∷ xs) within rising is =
      ap (λ ys. x ∷ ys) (remove_is_filter p i xs (omega arith) (rising-tail x xs rising) (λ d. is d))
      ∙ sym (cond-true (not (eqb x.lid p)) (x ∷ filter (λ e. not (eqb e.lid p)) xs) (filter (λ e. not (eqb e.lid p)) xs)
      (ap not (ne_eqb x.lid p (λ same. absurd (omega (arith, is x, rising.below 0 (suc i) x (omega arith) (omega arith)))))))

  -- a position that is shown is that of the first slot that is not below it
  pub shown_there : (p i : ℕ) (es : List (Slot T)) → AreRising es → AllWithin (λ (e : Slot T). e.lid < p) es 0 i → AllWithin (λ (e : Slot T). p ≤ e.lid) es i (length es) → IsSome (value_at p es)
      → (i < length es) × ((d : Slot T) → (get_or es i d).lid ≡ p)
  shown_there p i es rising below above some =
      let at = entry_there p es (value_at-some p es some) in
      let e : Slot T = at.0 in
      let n : ℕ = at.1.0 in
      let inside : n < length es = at.1.1 in
      let is : (get_or es n e).lid ≡ p = ap (λ (x : Slot T). x.lid) at.1.2 ∙ at.2 in
      let same : n ≡ i = elim (cases_lt n i) [
        | inl low ↦ absurd (omega (arith, below n e (omega arith) low))
        | inr high ↦ elim (cases_eq n i) [
          | inl here ↦ here
          | inr past ↦ absurd (omega (arith, above i e (omega arith) (omega (arith, past)), rising.below i n e (omega (arith, past)) inside))
        ]
      ] in
      (omega arith, λ d. ap (λ (x : Slot T). x.lid) (get_or_default es i d e (omega arith)) ∙ ap (λ k. (get_or es k e).lid) (sym same) ∙ is)

-- the value at lid is let go, as the code has it: slot i of the slots ys is removed
module _ {T : Type 0} (m : MaintainerState T) (number : ℕ) (epochs : EpochList) (slots ys : List (Slot T)) (gone : List ℕ) (spare k i lid : ℕ)
    (view : ◌≡◌ {A = MaintainerState T} (record { number = number; epochs = epochs; entries = slots; gone = gone; spare = spare }) m)
    (sound : IsSound number epochs slots gone k) (some : IsSome (value_at lid m.entries))
    (read : ys ≡ slots) (below : AllWithin (λ (e : Slot T). e.lid < lid) ys 0 i) (above : AllWithin (λ (e : Slot T). lid ≤ e.lid) ys i (length ys)) where
  abbrev state : MaintainerState T
  state = record { number = number; epochs = epochs; entries = slots; gone = gone; spare = spare }

  shown : IsSome (value_at lid slots)
  shown = subst (λ (n : MaintainerState T). IsSome (value_at lid n.entries)) (sym view) some

  below_slots : AllWithin (λ (e : Slot T). e.lid < lid) slots 0 i
  below_slots = subst (λ xs. AllWithin (λ (e : Slot T). e.lid < lid) xs 0 i) read below

  above_slots : AllWithin (λ (e : Slot T). lid ≤ e.lid) slots i (length slots)
  above_slots = subst (λ xs. AllWithin (λ (e : Slot T). lid ≤ e.lid) xs i (length xs)) read above

  pub collecting_there : (i < length slots) × ((d : Slot T) → (get_or slots i d).lid ≡ lid)
  collecting_there = shown_there lid i slots sound.kept.rising below_slots above_slots shown

  pub collecting_value : (x : Slot T) → x ≡ get_or slots i x → Some x.value ≡ value_at lid m.entries
  collecting_value x is =
      sym (value_at-here lid i x slots collecting_there.0 below_slots is (ap (λ (e : Slot T). e.lid) is ∙ collecting_there.1 x))
      ∙ ap (λ (n : MaintainerState T). value_at lid n.entries) view

  counted : 1 ≤ times_in lid slots
  counted = value_at-some lid slots shown

  -- it was not gone before
  apart : (q k : ℕ) → k < length gone → get_or gone k q ≡ q → q ≡ lid → ⊥
  apart q k inside is same = absurd (omega (arith, counted, sound.let_go.apart k q inside, ap (λ p. times_in p slots) (is ∙ same)))

  module _ (new : List (Slot T)) (zs late : List ℕ) (j : ℕ) (read_gone : zs ≡ gone) (within_gone : j ≤ length zs) (below_gone : AllWithin (λ p. p < lid) zs 0 j) (above_gone : AllWithin (λ p. lid ≤ p) zs j (length zs))
      (items : new ≡ remove slots i) (positions : late ≡ insert gone j lid) where
    -- and lid comes to place j of the positions zs
    within_late : j ≤ length gone
    within_late = subst (λ xs. j ≤ length xs) read_gone within_gone

    below_late : AllWithin (λ p. p < lid) gone 0 j
    below_late = subst (λ xs. AllWithin (λ p. p < lid) xs 0 j) read_gone below_gone

    strictly_above : AllWithin (λ p. lid < p) gone j (length gone)
    strictly_above = λ n d from inside.
        let from_it : lid ≤ get_or gone n d = subst (λ xs. AllWithin (λ p. lid ≤ p) xs j (length xs)) read_gone above_gone n d from inside in
        let other : get_or gone n d ≡ lid → ⊥ = apart (get_or gone n d) n inside (get_or_default gone n (get_or gone n d) d inside) in
        omega (arith, from_it, other)

    new_is : new ≡ filter (λ e. not (eqb e.lid lid)) slots
    new_is = items ∙ remove_is_filter lid i slots collecting_there.0 sound.kept.rising collecting_there.1

    late_is : late ≡ put_position lid gone
    late_is = positions ∙ insert_is_put_position gone j lid within_late below_late strictly_above

    pub collecting_state : record { number = number; epochs = epochs; entries = new; gone = late; spare = spare } ≡ collected m lid
    collecting_state = subst (λ (n : MaintainerState T). ◌≡◌ {A = MaintainerState T} (record { number = number; epochs = epochs; entries = new; gone = late; spare = spare }) (collected n lid)) view
        (ap₂ (λ (es : List (Slot T)) (ps : List ℕ). let s : MaintainerState T = record { number = number; epochs = epochs; entries = es; gone = ps; spare = spare } in s) new_is late_is)

    kept_new : AreKept epochs number new
    kept_new = record {
      rising = record { below = subst (Rises (λ (e : Slot T). e.lid)) (sym items) (rises-remove (λ (e : Slot T). e.lid) slots i collecting_there.0 sound.kept.rising.below) };
      own = subst (All (λ (e : Slot T). IsOwnedBy epochs number e.lid)) (sym new_is) (All-filter (λ e. not (eqb e.lid lid)) (λ (e : Slot T). IsOwnedBy epochs number e.lid) slots sound.kept.own);
      small = subst (All (λ (e : Slot T). e.lid < 2 ^ 48)) (sym new_is) (All-filter (λ e. not (eqb e.lid lid)) (λ (e : Slot T). e.lid < 2 ^ 48) slots sound.kept.small);
    }

    small_here : lid < 2 ^ 48
    small_here = entry_counted (λ p. p < 2 ^ 48) lid slots counted sound.kept.small

    let_go_new : AreLetGo new late
    let_go_new = record {
      rising = record { below = subst (Rises (λ (p : ℕ). p)) (sym positions) (rises-insert (λ (p : ℕ). p) gone j lid sound.let_go.rising.below within_late below_late strictly_above) };
      small = subst (All (λ p. p < 2 ^ 48)) (sym late_is) (All-put_position (λ p. p < 2 ^ 48) lid gone small_here sound.let_go.small);
      apart = subst (All (λ p. times_in p new ≡ 0)) (sym late_is) (All-put_position (λ p. times_in p new ≡ 0) lid gone
          (ap (times_in lid) new_is ∙ times_in-others_same lid slots)
          (λ n d inside. ap (times_in (get_or gone n d)) new_is
          ∙ times_in-others lid (get_or gone n d) slots (apart (get_or gone n d) n inside (get_or_default gone n (get_or gone n d) d inside)) ∙ sound.let_go.apart n d inside));
    }

    mark_new : IsMarkOf (IsOwnedBy epochs number) (IsFilledBy new late) k
    mark_new = subst (λ ps. IsMarkOf (IsOwnedBy epochs number) (IsFilledBy new ps) k) (sym late_is)
        (subst (λ es. IsMarkOf (IsOwnedBy epochs number) (IsFilledBy es (put_position lid gone)) k) (sym new_is)
        (mark_same (IsOwnedBy epochs number) (IsFilledBy slots gone) (IsFilled (collected state lid)) (collected_fills state lid) (λ q. collected_was state lid q (omega (arith, counted))) k sound.mark))

    pub collecting_sound : IsSound number epochs new late k
    collecting_sound = record { kept = kept_new; let_go = let_go_new; mark = mark_new }
