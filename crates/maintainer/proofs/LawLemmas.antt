-- The laws of maintainers.
use Rattle.std.proofs.Common.{◌≡◌, ◌⊎◌, ℕ, suc, ◌+◌, ◌<◌, ◌≤◌, false, cond, ltb, eqb, List, [], ◌∷◌, Option, Some, length, get_or, refl, ap, sym, ◌∙◌, subst, inl, inr, arith}
use Rattle.std.specs.List.{All, sum_by}
use Rattle.std.proofs.lemmas.Bool.{cases_eq, cases_lt, cond-true, cond-false, cond_both, eq-eqb, ne_eqb}
use Rattle.std.proofs.lemmas.List.Elements.{All-head, All-tail, All-drop, All-weaker}
use Rattle.std.proofs.lemmas.List.Sums.{sum_by-cons}
use Rattle.flstore_rounds.specs.declared.epochs.Epoch.{Epoch}
use Rattle.flstore_rounds.specs.Epochs.{EpochList, owner, longer, later_than, IsNextOwn, IsPrefix, IsSettled}
use Rattle.flstore_rounds.specs.Heads.{IsTrueMark}
use Rattle.maintainer.specs.declared.slot.Slot.{Slot}
use Rattle.maintainer.specs.Marks.{IsOwnReached}
use Rattle.maintainer.specs.Maintainers.{MaintainerState, IsOwn, IsFilled, IsMark, OwnsAll, times_in, times_filled, value_at, put_in, placed, learned, mark_of}
use Rattle.maintainer.proofs.MarkLemmas.{reached_filled, mark_gap, reached_more, mark_alike, mark_below_reached}
use Rattle.maintainer.proofs.MarkOf.{is_mark, mark_is}
use Rattle.maintainer.proofs.SlotLemmas.{times_in-put_in, vacant_none}
use Rattle.maintainer.proofs.LongerLemmas.{owner-longer, settled_below}

-- what is counted stands somewhere
count_at : {X : Type 0} (f : X → ℕ) (p : ℕ) (xs : List X) → 0 < sum_by (λ x. cond (eqb (f x) p) 1 0) xs → (k : ℕ) × (d : X) × (k < length xs) × (f (get_or xs k d) ≡ p)
count_at f p [] some = absurd (omega arith)
count_at {X} f p (x ∷ xs) some = elim (cases_eq (f x) p) [
  | inl same ↦ (0, x, omega arith, same)
  | inr other ↦
      let at = count_at f p xs (omega (arith, cond-false {A = ℕ} (eqb (f x) p) 1 0 (ne_eqb (f x) p other), sum_by-cons (λ (y : X). cond (eqb (f y) p) 1 0) x xs)) in
      (suc at.0, at.1, omega (arith, at.2), at.3)
]

module _ {T : Type 0} where
  value_at-put_in : (q : ℕ) (e : Slot T) (es : List (Slot T)) → All (λ (x : Slot T). x.lid ≡ e.lid → ⊥) es → value_at q (put_in e es) ≡ cond (eqb e.lid q) (Some e.value) (value_at q es)
  value_at-put_in q e [] vacant = refl
  value_at-put_in q e (x ∷ xs) vacant = cond_both (ltb e.lid x.lid) (e ∷ x ∷ xs) (x ∷ put_in e xs) (λ es. value_at q es ≡ cond (eqb e.lid q) (Some e.value) (value_at q (x ∷ xs)))
      (λ first. refl)
      (λ later.
      let other : x.lid ≡ e.lid → ⊥ = All-head (λ (y : Slot T). y.lid ≡ e.lid → ⊥) x xs vacant in
      let rest : value_at q (put_in e xs) ≡ cond (eqb e.lid q) (Some e.value) (value_at q xs) = value_at-put_in q e xs (All-tail (λ (y : Slot T). y.lid ≡ e.lid → ⊥) x xs vacant) in
      elim (cases_eq x.lid q) [
        | inl same ↦ let not_e : eqb e.lid q ≡ false = ne_eqb e.lid q (λ is. other (same ∙ sym is)) in
            cond-true (eqb x.lid q) (Some x.value) (value_at q (put_in e xs)) (eq-eqb x.lid q same)
            ∙ sym (cond-false (eqb e.lid q) (Some e.value) (value_at q (x ∷ xs)) not_e ∙ cond-true (eqb x.lid q) (Some x.value) (value_at q xs) (eq-eqb x.lid q same))
        | inr differs ↦
            cond-false (eqb x.lid q) (Some x.value) (value_at q (put_in e xs)) (ne_eqb x.lid q differs) ∙ rest
            ∙ ap (λ (o : Option T). cond (eqb e.lid q) (Some e.value) o) (sym (cond-false (eqb x.lid q) (Some x.value) (value_at q xs) (ne_eqb x.lid q differs)))
      ])

  pub placed_value : (m : MaintainerState T) (p q : ℕ) (value : T) → (IsFilled m p → ⊥) → value_at q (placed m p value).entries ≡ cond (eqb p q) (Some value) (value_at q m.entries)
  placed_value m p q value vacant = value_at-put_in q (record { lid = p; value = value }) m.entries (vacant_none p m.entries (λ some. vacant (omega arith)))

  pub placed_filled : (m : MaintainerState T) (p q : ℕ) (value : T) → times_filled q (placed m p value) ≡ times_filled q m + cond (eqb p q) 1 0
  placed_filled m p q value = omega (arith, times_in-put_in q (record { lid = p; value = value }) m.entries)

  pub mark_filled : (m : MaintainerState T) (p : ℕ) → IsOwn m p → p < mark_of m → IsFilled m p
  mark_filled m p own low = reached_filled (IsOwn m) (IsFilled m) (mark_of m) p (is_mark m).reached low own.first own

  -- a mark is 1 at least
  pub reached_first : (m : MaintainerState T) (filled : ℕ → Type 0) (k : ℕ) → IsOwnReached (IsOwn m) filled k → 1 ≤ k
  reached_first m filled k reached = elim reached [ inl one ↦ omega arith | inr at ↦ omega (arith, at.1) ]

  pub mark_ends : (m : MaintainerState T) (q : ℕ) → IsNextOwn m.epochs m.number (mark_of m) q → IsFilled m q → ⊥
  mark_ends m q next = let first : 1 ≤ mark_of m = reached_first m (IsFilled m) (mark_of m) (is_mark m).reached in
      let above : mark_of m ≤ q = next.above in
      mark_gap (IsOwn m) (IsFilled m) (mark_of m) q (is_mark m) (λ p own. own.first) above (record { first = omega arith; owner = next.own }) (λ p from to own. next.least p from to own.owner)

  pub mark_rises : (m : MaintainerState T) (p : ℕ) (value : T) → mark_of m ≤ mark_of (placed m p value)
  mark_rises m p value =
      let n : MaintainerState T = placed m p value in
      let grows : (q : ℕ) → IsFilled m q → IsFilled n q = λ q full. omega (arith, placed_filled m p q value) in
      mark_below_reached (IsOwn m) (IsFilled n) (mark_of m) (mark_of n) (λ q own. own.first) (reached_more (IsOwn m) (IsFilled m) (IsFilled n) grows (mark_of m) (is_mark m).reached) (is_mark n)

  pub mark_stays : (m : MaintainerState T) (e : EpochList) → IsPrefix m.epochs e ⊎ IsPrefix e m.epochs → ((p : ℕ) → IsFilled m p → IsSettled e m.epochs p) → mark_of (learned m e) ≡ mark_of m
  mark_stays m e known settled =
      let same : (p q : ℕ) → IsFilled m p → q ≤ p → owner (longer m.epochs e) q ≡ owner m.epochs q =
      λ p q full le. owner-longer m.epochs e q known (settled_below e m.epochs p q le (settled p full)) in
      let mark : IsMark (learned m e) (mark_of m) = mark_alike (IsOwn m) (IsOwn (learned m e)) (IsFilled m)
      (λ p q full le own. record { first = own.first; owner = same p q full le ∙ own.owner })
      (λ p q full le own. record { first = own.first; owner = sym (same p q full le) ∙ own.owner })
      (mark_of m) (is_mark m) in
      sym (mark_is (learned m e) (mark_of m) mark)

  -- what is filled is settled
  filled_settled : (t : EpochList) (m : MaintainerState T) (p : ℕ) → OwnsAll t m → IsFilled m p → IsSettled t m.epochs p
  filled_settled t m p owns full =
      let P : ℕ → Type 0 = IsSettled t m.epochs in
      elim (cases_lt 0 (times_in p m.entries)) [
        | inl some ↦ let at = count_at (λ (e : Slot T). e.lid) p m.entries some in subst P at.3 (owns.entries at.0 at.1 at.2).settled
        | inr none ↦ let at = count_at (λ (x : ℕ). x) p m.gone (omega arith) in subst P at.3 (owns.gone at.0 at.1 at.2).settled
      ]

  pub own_true : (t : EpochList) (m : MaintainerState T) (P : ℕ → Type 0) → All (λ (n : Epoch). 1 ≤ n.start) t.list → OwnsAll t m → ((p : ℕ) → IsFilled m p → P p) → IsTrueMark t m.epochs P m.number (mark_of m)
  own_true t m P starts owns has = record {
    known = owns.known;
    reached = elim (is_mark m).reached [
      | inl one ↦ inl (omega arith)
      | inr at ↦ inr (at.0, at.1, has at.0 (at.2.all at.0 (omega arith) at.2.here), at.2.here.owner)
    ];
    filled = λ p first low own. has p (mark_filled m p (record { first = first; owner = own }) low);
    settled = elim (is_mark m).reached [
      | inl one ↦ All-weaker (λ (n : Epoch). 1 ≤ n.start) (λ (n : Epoch). mark_of m ≤ n.start) (λ n from. omega arith) (later_than m.epochs t) (All-drop (λ (n : Epoch). 1 ≤ n.start) (length m.epochs.list) t.list starts)
      | inr at ↦ All-weaker (λ (n : Epoch). at.0 < n.start) (λ (n : Epoch). mark_of m ≤ n.start) (λ n above. omega (arith, at.1)) (later_than m.epochs t)
          (filled_settled t m at.0 owns (at.2.all at.0 (omega arith) at.2.here))
    ];
  }
