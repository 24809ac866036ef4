-- How the mark goes on, and what placing and a longer epoch list keep.
use Rattle.std.proofs.Common.{◌≡◌, ◌⊎◌, ◌↔◌, ℕ, ◌+◌, ◌-◌, ◌^◌, ◌<◌, ◌≤◌, Bool, true, false, cond, eqb, IsTrue, List, [], length, get_or, Some, None, Result, Ok, Err, OnOk, OnErr, refl, ap, ap₂, sym, ◌∙◌, subst, inl, inr, arith}
use Rattle.std.specs.List.{All, AllWithin, Contains, insert, list_any}
use Rattle.std.proofs.lemmas.Bool.{cases_Bool, cases_lt, cond-false, ne_eqb}
use Rattle.flstore_rounds.specs.Epochs.{EpochList, owner, longer, IsNextOwn, IsPrefix, IsSettled}
use Rattle.maintainer.specs.declared.slot.Slot.{Slot}
use Rattle.maintainer.specs.Marks.{IsOwnReached, IsMarkOf}
use Rattle.maintainer.specs.Maintainers.{AreKept, AreLetGo, IsOwnedBy, IsFilledBy, IsSound, MaintainerState, IsOwn, IsFilled, times, times_in, value_at, put_in, placed, mark_of}
use Rattle.maintainer.proofs.CountLemmas.{counts_itself, entry_counted, gone_test, position_counted, position_counts, position_there}
use Rattle.maintainer.proofs.MarkLemmas.{gapless_on, mark_at_gap, mark_at_end, reached_more, mark_alike}
use Rattle.maintainer.proofs.SlotLemmas.{times_in-insert, times_in-some, vacant_none, kept-insert, insert_is_put_in, value_at-filled, value_at-vacant}
use Rattle.maintainer.proofs.MarkOf.{mark_is}
use Rattle.maintainer.proofs.LongerLemmas.{owner-longer, settled_below}

pub owned_first : (epochs : EpochList) (number p : ℕ) → IsOwnedBy epochs number p → 1 ≤ p
owned_first epochs number p own = own.first

module _ (epochs : EpochList) (number : ℕ) (filled : ℕ → Type 0) where
  -- k is in the range of positions, or just above, and up to it there is no gap
  pub record IsPassing (k : ℕ) : Type 0 where
    pub first : 1 ≤ k
    pub small : k ≤ 2 ^ 48
    pub reached : IsOwnReached (IsOwnedBy epochs number) filled k

  -- between a reached position and the next own one none is own
  none_between : (k q : ℕ) → IsNextOwn epochs number k q → (p : ℕ) → k ≤ p → p < q → IsOwnedBy epochs number p → ⊥
  none_between k q next p from to own = next.least p from to own.owner

  own_next : (k q : ℕ) → 1 ≤ k → IsNextOwn epochs number k q → IsOwnedBy epochs number q
  own_next k q first next = record { first = omega (arith, next.above); owner = next.own }

  -- the next own position is filled
  pub passing_next : (k q : ℕ) → IsPassing k → IsNextOwn epochs number k q → filled q → q < 2 ^ 48 → IsPassing (q + 1)
  passing_next k q now next full small = record {
    first = omega arith;
    small = omega arith;
    reached = inr (q, refl, gapless_on (IsOwnedBy epochs number) filled k q now.reached (owned_first epochs number) (own_next k q now.first next) full (none_between k q next));
  }

  pub passed_on : (k q : ℕ) → IsPassing k → IsNextOwn epochs number k q → ((p : ℕ) → filled p → p < 2 ^ 48) → filled q → IsPassing (q + 1) × (2 ^ 48 - (q + 1) < 2 ^ 48 - k)
  passed_on k q now next small full = (passing_next k q now next full (small q full), omega (arith, next.above, small q full))

  -- it is not
  pub passing_stops : (k q : ℕ) → IsPassing k → IsNextOwn epochs number k q → (filled q → ⊥) → IsMarkOf (IsOwnedBy epochs number) filled k
  passing_stops k q now next vacant = mark_at_gap (IsOwnedBy epochs number) filled k q now.reached (own_next k q now.first next) vacant (none_between k q next)

-- a mark is 1 at least
pub mark_first : (epochs : EpochList) (number : ℕ) (filled : ℕ → Type 0) (k : ℕ) → IsOwnReached (IsOwnedBy epochs number) filled k → 1 ≤ k
mark_first epochs number filled k reached = elim reached [ inl one ↦ omega arith | inr at ↦ omega (arith, at.1) ]

module _ {T : Type 0} where
  -- a position is filled exactly where a value stands there, or it is among those that are gone

  pub filled_shown : (slots : List (Slot T)) (gone : List ℕ) (p : ℕ) (value : T) → Some value ≡ value_at p slots → IsFilledBy slots gone p
  filled_shown slots gone p value is = omega (arith, value_at-filled p value slots (sym is))

  pub filled_gone : (slots : List (Slot T)) (gone : List ℕ) (p : ℕ) (b : Bool) → None ≡ value_at p slots → b ≡ list_any (λ q. eqb q p) gone → IsTrue b ↔ IsFilledBy slots gone p
  filled_gone slots gone p b is among =
      let stands : times_in p slots ≡ 0 = value_at-vacant p slots (sym is) in
      let tested = gone_test p gone in (
        λ found. omega (arith, tested.0 (sym among ∙ found)),
        λ full. elim (cases_Bool b) [ inl found ↦ found | inr lost ↦ absurd (omega (arith, stands, tested.1 (sym among ∙ lost))) ],
      )

  -- what is filled is in the range of positions
  pub filled_small : (epochs : EpochList) (number : ℕ) (slots : List (Slot T)) (gone : List ℕ) → AreKept epochs number slots → AreLetGo slots gone → (p : ℕ) → IsFilledBy slots gone p → p < 2 ^ 48
  filled_small epochs number slots gone kept let_go p full = elim (cases_lt 0 (times_in p slots)) [
    | inl some ↦ entry_counted (λ q. q < 2 ^ 48) p slots some kept.small
    | inr none ↦ position_counted (λ q. q < 2 ^ 48) p gone (omega arith) let_go.small
  ]

  -- a mark is in the range of positions, or just above
  pub passing_sound : (number : ℕ) (epochs : EpochList) (slots : List (Slot T)) (gone : List ℕ) (k : ℕ) → IsSound number epochs slots gone k → IsPassing epochs number (IsFilledBy slots gone) k
  passing_sound number epochs slots gone k sound = record {
    first = mark_first epochs number (IsFilledBy slots gone) k sound.mark.reached;
    small = elim sound.mark.reached [
      | inl one ↦ omega (arith, one)
      | inr at ↦ omega (arith, at.1, filled_small epochs number slots gone sound.kept sound.let_go at.0 (at.2.all at.0 (omega arith) at.2.here))
    ];
    reached = sound.mark.reached;
  }

none_filled : (T : Type 0) (p : ℕ) → 1 ≤ p → IsFilledBy {T = T} [] [] p → ⊥
none_filled T p from full = absurd (omega arith)

-- with no slot yet
pub sound_none : {T : Type 0} (number : ℕ) (epochs : EpochList) → IsSound {T = T} number epochs [] [] 1
sound_none {T} number epochs = record {
  kept = record { rising = record { below = λ i j d lt inside. absurd (omega arith) }; own = λ j d inside. absurd (omega arith); small = λ j d inside. absurd (omega arith) };
  let_go = record { rising = record { below = λ i j d lt inside. absurd (omega arith) }; small = λ j d inside. absurd (omega arith); apart = λ j d inside. absurd (omega arith) };
  mark = mark_at_end (IsOwnedBy epochs number) (IsFilledBy {T = T} [] []) 1 (inl refl) (none_filled T);
}

-- with the longer list, of whose further epochs each starts above all that is filled
pub sound_learned : {T : Type 0} (number : ℕ) (e f : EpochList) (slots : List (Slot T)) (gone : List ℕ) (k : ℕ) → IsPrefix e f ⊎ IsPrefix f e → ((p : ℕ) → IsFilledBy slots gone p → IsSettled f e p) → IsSound number e slots gone k → IsSound number (longer e f) slots gone k
sound_learned number e f slots gone k known settled sound =
    let same : (p q : ℕ) → IsFilledBy slots gone p → q ≤ p → owner (longer e f) q ≡ owner e q =
    λ p q full le. owner-longer e f q known (settled_below f e p q le (settled p full)) in
    let to : (p q : ℕ) → IsFilledBy slots gone p → q ≤ p → IsOwnedBy e number q → IsOwnedBy (longer e f) number q =
    λ p q full le own. record { first = own.first; owner = same p q full le ∙ own.owner } in
    let back : (p q : ℕ) → IsFilledBy slots gone p → q ≤ p → IsOwnedBy (longer e f) number q → IsOwnedBy e number q =
    λ p q full le own. record { first = own.first; owner = sym (same p q full le) ∙ own.owner } in
    record {
      kept = record {
        rising = sound.kept.rising;
        own = λ j d inside. let some : 1 ≤ times_in (get_or slots j d).lid slots = times_in-some (get_or slots j d).lid j d slots inside refl in
            to (get_or slots j d).lid (get_or slots j d).lid (omega arith) (omega arith) (sound.kept.own j d inside);
        small = sound.kept.small;
      };
      let_go = sound.let_go;
      mark = mark_alike (IsOwnedBy e number) (IsOwnedBy (longer e f) number) (IsFilledBy slots gone) to back k sound.mark;
    }

-- a value is placed, as the code has it: at place i of the slots ys
module _ {T : Type 0} (m : MaintainerState T) (number : ℕ) (epochs : EpochList) (slots ys new : List (Slot T)) (gone : List ℕ) (spare k i lid : ℕ) (value : T)
    (view : ◌≡◌ {A = MaintainerState T} (record { number = number; epochs = epochs; entries = slots; gone = gone; spare = spare }) m)
    (sound : IsSound number epochs slots gone k) (read : ys ≡ slots) (within : i ≤ length ys)
    (below : AllWithin (λ (e : Slot T). e.lid < lid) ys 0 i) (above : AllWithin (λ (e : Slot T). lid ≤ e.lid) ys i (length ys))
    (own : IsOwn m lid) (small : lid < 2 ^ 48) (vacant : IsFilled m lid → ⊥) (items : new ≡ insert slots i (record { lid = lid; value = value })) where
  abbrev slot : Slot T
  slot = record { lid = lid; value = value }

  within_slots : i ≤ length slots
  within_slots = subst (λ xs. i ≤ length xs) read within

  below_slots : AllWithin (λ (e : Slot T). e.lid < lid) slots 0 i
  below_slots = subst (λ xs. AllWithin (λ (e : Slot T). e.lid < lid) xs 0 i) read below

  above_slots : AllWithin (λ (e : Slot T). lid ≤ e.lid) slots i (length slots)
  above_slots = subst (λ xs. AllWithin (λ (e : Slot T). lid ≤ e.lid) xs i (length xs)) read above

  own_slots : IsOwnedBy epochs number lid
  own_slots = subst (λ (n : MaintainerState T). IsOwn n lid) (sym view) own

  vacant_slots : IsFilledBy slots gone lid → ⊥
  vacant_slots = subst (λ (n : MaintainerState T). IsFilled n lid → ⊥) (sym view) vacant

  strictly_above : AllWithin (λ (e : Slot T). lid < e.lid) slots i (length slots)
  strictly_above = λ j d from inside.
      let free : All (λ (e : Slot T). e.lid ≡ lid → ⊥) slots = vacant_none lid slots (λ some. vacant_slots (omega arith)) in
      let other : (get_or slots j d).lid ≡ lid → ⊥ = free j d inside in
      omega (arith, above_slots j d from inside, other)

  counts : (p : ℕ) → times_in p new ≡ times_in p slots + cond (eqb lid p) 1 0
  counts p = ap (times_in p) items ∙ times_in-insert p i slot slots

  pub placing_kept : AreKept epochs number new
  placing_kept = subst (λ xs. AreKept epochs number xs) (sym items) (kept-insert epochs number slots i slot sound.kept within_slots below_slots strictly_above own_slots small)

  pub placing_let_go : AreLetGo new gone
  placing_let_go = record {
    rising = sound.let_go.rising;
    small = sound.let_go.small;
    apart = λ j d inside.
        let q : ℕ = get_or gone j d in
        let other : lid ≡ q → ⊥ = λ same. vacant_slots (omega (arith, ap (λ p. times p gone) same, counts_itself gone j d inside)) in
        omega (arith, counts q, sound.let_go.apart j d inside, cond-false {A = ℕ} (eqb lid q) 1 0 (ne_eqb lid q other));
  }

  -- zs are the positions that are gone, as the code reads them

  pub placing_small : (zs : List ℕ) → zs ≡ gone → (p : ℕ) → IsFilledBy new zs p → p < 2 ^ 48
  placing_small zs is p full = filled_small epochs number new gone placing_kept placing_let_go p (subst (λ ps. IsFilledBy new ps p) is full)

  pub placing_reached : (zs : List ℕ) → zs ≡ gone → IsOwnReached (IsOwnedBy epochs number) (IsFilledBy new zs) k
  placing_reached zs is = subst (λ ps. IsOwnReached (IsOwnedBy epochs number) (IsFilledBy new ps) k) (sym is)
      (reached_more (IsOwnedBy epochs number) (IsFilledBy slots gone) (IsFilledBy new gone) (λ p full. omega (arith, counts p)) k sound.mark.reached)

  pub placing_sound : (xs : List (Slot T)) (zs : List ℕ) (l : ℕ) → xs ≡ new → zs ≡ gone → IsMarkOf (IsOwnedBy epochs number) (IsFilledBy xs zs) l → IsSound number epochs new gone l
  placing_sound xs zs l is also mark = record {
    kept = placing_kept;
    let_go = placing_let_go;
    mark = subst (λ ps. IsMarkOf (IsOwnedBy epochs number) (IsFilledBy new ps) l) also (subst (λ es. IsMarkOf (IsOwnedBy epochs number) (IsFilledBy es zs) l) is mark);
  }

  pub placing_state : (left : ℕ) → left ≡ spare - 1 → record { number = number; epochs = epochs; entries = new; gone = gone; spare = left } ≡ placed m lid value
  placing_state left less = let put : new ≡ put_in slot slots = items ∙ insert_is_put_in slots i slot within_slots below_slots strictly_above in
      subst (λ (n : MaintainerState T). ◌≡◌ {A = MaintainerState T} (record { number = number; epochs = epochs; entries = new; gone = gone; spare = left }) (placed n lid value)) view
      (ap₂ (λ (es : List (Slot T)) (n : ℕ). let s : MaintainerState T = record { number = number; epochs = epochs; entries = es; gone = gone; spare = n } in s) put less)

-- what is seen of the fields
module _ {T : Type 0} (m : MaintainerState T) (number : ℕ) (epochs : EpochList) (slots : List (Slot T)) (gone : List ℕ) (spare : ℕ)
    (view : ◌≡◌ {A = MaintainerState T} (record { number = number; epochs = epochs; entries = slots; gone = gone; spare = spare }) m) where
  pub seen_mark : (k : ℕ) → IsSound number epochs slots gone k → k ≡ mark_of m
  seen_mark k sound = subst (λ (n : MaintainerState T). k ≡ mark_of n) view (mark_is (record { number = number; epochs = epochs; entries = slots; gone = gone; spare = spare }) k sound.mark)

  -- what a read shows

  pub seen_shown : (k : ℕ) (ys : List (Slot T)) (p : ℕ) (value : T) → IsSound number epochs slots gone k → ys ≡ slots → Some value ≡ value_at p ys → IsFilled m p × (Contains m.gone p → ⊥)
  seen_shown k ys p value sound read is =
      let some : 1 ≤ times_in p slots = value_at-filled p value slots (ap (value_at p) (sym read) ∙ sym is) in
      let apart : Contains gone p → ⊥ = λ has. absurd (omega (arith, some, sound.let_go.apart has.0 p has.1, ap (λ q. times_in q slots) has.2)) in
      (subst (λ (n : MaintainerState T). IsFilled n p) view (omega (arith, some)), subst (λ (n : MaintainerState T). Contains n.gone p → ⊥) view apart)

  pub seen_gone : (zs : List ℕ) (p : ℕ) (b : Bool) → zs ≡ gone → b ≡ list_any (λ q. eqb q p) zs → b ≡ true → IsFilled m p × Contains m.gone p
  seen_gone zs p b read among found =
      let some : 1 ≤ times p gone = (gone_test p gone).0 (ap (list_any (λ q. eqb q p)) (sym read) ∙ sym among ∙ found) in
      (subst (λ (n : MaintainerState T). IsFilled n p) view (omega (arith, some)), subst (λ (n : MaintainerState T). Contains n.gone p) view (position_there p gone some))

  pub seen_empty : (ys : List (Slot T)) (zs : List ℕ) (p : ℕ) (b : Bool) → ys ≡ slots → zs ≡ gone → None ≡ value_at p ys → b ≡ list_any (λ q. eqb q p) zs → b ≡ false → (IsFilled m p → ⊥) × (Contains m.gone p → ⊥)
  seen_empty ys zs p b read also is among lost =
      let none : times_in p slots ≡ 0 = value_at-vacant p slots (ap (value_at p) (sym read) ∙ sym is) in
      let never : times p gone ≡ 0 = (gone_test p gone).1 (ap (list_any (λ q. eqb q p)) (sym also) ∙ sym among ∙ lost) in (
        subst (λ (n : MaintainerState T). IsFilled n p → ⊥) view (λ full. absurd (omega (arith, none, never))),
        subst (λ (n : MaintainerState T). Contains n.gone p → ⊥) view (λ has. absurd (omega (arith, never, position_counts p gone has))),
      )

  -- the longer list is taken, or for want of memory none
  pub seen_learned : {A E : Type 0} (k : ℕ) (f new : EpochList) (r : Result A E) → IsPrefix m.epochs f ⊎ IsPrefix f m.epochs → ((p : ℕ) → IsFilled m p → IsSettled f m.epochs p)
      → OnOk r (new ≡ longer epochs f) → OnErr r (new ≡ epochs) → IsSound number epochs slots gone k → IsSound number new slots gone k
  seen_learned k f new r known settled ok err sound =
      let known_e : IsPrefix epochs f ⊎ IsPrefix f epochs = subst (λ (n : MaintainerState T). IsPrefix n.epochs f ⊎ IsPrefix f n.epochs) (sym view) known in
      let settled_e : (p : ℕ) → IsFilledBy slots gone p → IsSettled f epochs p = subst (λ (n : MaintainerState T). (p : ℕ) → IsFilled n p → IsSettled f n.epochs p) (sym view) settled in
      elim r as (λ r. OnOk r (new ≡ longer epochs f) → OnErr r (new ≡ epochs) → IsSound number new slots gone k) [
        | Ok _ ↦ λ is _. subst (λ e. IsSound number e slots gone k) (sym is) (sound_learned number epochs f slots gone k known_e settled_e sound)
        | Err _ ↦ λ _ is. subst (λ e. IsSound number e slots gone k) (sym is) sound
      ] ok err
