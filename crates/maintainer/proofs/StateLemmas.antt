-- What a maintainer's further states keep: several values placed, a value collected, no spare places.
use Rattle.std.proofs.Common.{◌≡◌, ℕ, ◌+◌, ◌≤◌, cond, eqb, not, is_some, IsSome, List, [], ◌∷◌, None, refl, ap, sym, ◌∙◌, inl, inr, arith}
use Rattle.std.specs.List.{All}
use Rattle.std.proofs.lemmas.Bool.{cases_lt, cases_eq, cond-true, cond-false, eq-eqb, ne_eqb, false≢true}
use Rattle.std.proofs.lemmas.List.Elements.{All-head, All-tail, All-filter}
use Rattle.std.proofs.lemmas.List.Sums.{sum_by-cons}
use Rattle.flstore_rounds.specs.Epochs.{EpochList}
use Rattle.maintainer.specs.declared.slot.Slot.{Slot}
use Rattle.maintainer.specs.Maintainers.{AreRising, MaintainerState, IsFilled, IsMark, IsOwn, collected, learned, mark_of, moved_in, placed, plain, times, times_filled, times_in, value_at}
use Rattle.maintainer.proofs.CountLemmas.{times_in-others, times_in-others_same, times_in-rising, value_at-absent, value_at-others}
use Rattle.maintainer.proofs.MarkLemmas.{mark_same}
use Rattle.maintainer.proofs.MarkOf.{is_mark, mark_is}
use Rattle.maintainer.proofs.PositionLemmas.{times-put_position}
use Rattle.maintainer.proofs.SlotLemmas.{All-put_in, times_in-put_in}

module _ {T : Type 0} where
  -- spare places stand apart

  pub plain_placed : (m : MaintainerState T) (p : ℕ) (value : T) → plain (placed m p value) ≡ placed (plain m) p value
  plain_placed m p value = refl

  pub plain_learned : (m : MaintainerState T) (e : EpochList) → plain (learned m e) ≡ learned (plain m) e
  plain_learned m e = refl

  pub plain_collected : (m : MaintainerState T) (p : ℕ) → plain (collected m p) ≡ collected (plain m) p
  plain_collected m p = refl

  pub plain_moved_in : (m : MaintainerState T) (es : List (Slot T)) → plain (moved_in m es) ≡ moved_in (plain m) es
  plain_moved_in m [] = refl
  plain_moved_in m (e ∷ es) = plain_moved_in (placed m e.lid e.value) es

  pub plain_filled : (m : MaintainerState T) (p : ℕ) → times_filled p (plain m) ≡ times_filled p m
  plain_filled m p = refl

  pub plain_value : (m : MaintainerState T) (p : ℕ) → value_at p (plain m).entries ≡ value_at p m.entries
  plain_value m p = refl

  pub plain_mark : (m : MaintainerState T) → mark_of (plain m) ≡ mark_of m
  plain_mark m = sym (mark_is (plain m) (mark_of m) (is_mark m))

  -- several values: they are there, and nothing else changed
  pub record HasTaken (m : MaintainerState T) (es : List (Slot T)) (n : MaintainerState T) : Type 1 where
    pub number : n.number ≡ m.number
    pub epochs : n.epochs ≡ m.epochs
    pub gone : n.gone ≡ m.gone
    pub sums : (p : ℕ) → times_in p n.entries ≡ times_in p m.entries + times_in p es
    pub each : (P : Slot T → Type 0) → All P m.entries → All P es → All P n.entries

  pub has_taken : (m : MaintainerState T) (es : List (Slot T)) → HasTaken m es (moved_in m es)
  has_taken m [] = record { number = refl; epochs = refl; gone = refl; sums = λ p. omega arith; each = λ P all none. all }
  has_taken m (e ∷ es) = let rest = has_taken (placed m e.lid e.value) es in record {
    number = rest.number;
    epochs = rest.epochs;
    gone = rest.gone;
    sums = λ p. omega (arith, rest.sums p, times_in-put_in p e m.entries, sum_by-cons (λ (x : Slot T). cond (eqb x.lid p) 1 0) e es);
    each = λ P all more. rest.each P (All-put_in P e m.entries (All-head P e es more) all) (All-tail P e es more);
  }

  -- a value collected

  pub collected_value : (m : MaintainerState T) (p q : ℕ) → value_at q (collected m p).entries ≡ cond (eqb p q) None (value_at q m.entries)
  collected_value m p q = value_at-others p q m.entries

  pub collected_gone : (m : MaintainerState T) (p q : ℕ) → times q (collected m p).gone ≡ times q m.gone + cond (eqb p q) 1 0
  collected_gone m p q = times-put_position q p m.gone

  pub All-collected : (P : Slot T → Type 0) (m : MaintainerState T) (p : ℕ) → All P m.entries → All P (collected m p).entries
  All-collected P m p all = All-filter (λ e. not (eqb e.lid p)) P m.entries all

  -- what was there once is still counted once
  pub collected_filled : (m : MaintainerState T) (p q : ℕ) → times_in p m.entries ≡ 1 → times_filled q (collected m p) ≡ times_filled q m
  collected_filled m p q once = elim (cases_eq q p) [
    | inl same ↦ omega (
      arith,
      collected_gone m p q,
      cond-true {A = ℕ} (eqb p q) 1 0 (eq-eqb p q (sym same)),
      ap (λ i. times_in i (collected m p).entries) same,
      times_in-others_same p m.entries,
      ap (λ i. times_in i m.entries) same,
    )
    | inr other ↦ omega (arith, collected_gone m p q, cond-false {A = ℕ} (eqb p q) 1 0 (ne_eqb p q (λ is. other (sym is))), times_in-others p q m.entries other)
  ]

  -- a value that is shown is counted
  pub value_at-some : (p : ℕ) (es : List (Slot T)) → IsSome (value_at p es) → 1 ≤ times_in p es
  value_at-some p es some = elim (cases_lt 0 (times_in p es)) [
    | inl is ↦ is
    | inr none ↦ absurd (false≢true (sym (ap is_some (value_at-absent p es (omega arith))) ∙ some))
  ]

  pub collected_shown : (m : MaintainerState T) (p q : ℕ) → AreRising m.entries → IsSome (value_at p m.entries) → times_filled q (collected m p) ≡ times_filled q m
  collected_shown m p q rising some = collected_filled m p q (omega (arith, value_at-some p m.entries some, times_in-rising p m.entries rising))

  -- the same positions are filled, where that one was
  pub collected_fills : (m : MaintainerState T) (p q : ℕ) → IsFilled m q → IsFilled (collected m p) q
  collected_fills m p q full = elim (cases_eq q p) [
    | inl same ↦ omega (arith, collected_gone m p q, cond-true {A = ℕ} (eqb p q) 1 0 (eq-eqb p q (sym same)))
    | inr other ↦ omega (arith, collected_gone m p q, times_in-others p q m.entries other)
  ]

  pub collected_was : (m : MaintainerState T) (p q : ℕ) → IsFilled m p → IsFilled (collected m p) q → IsFilled m q
  collected_was m p q was full = elim (cases_eq q p) [
    | inl same ↦ omega (arith, ap (λ i. times_filled i m) same)
    | inr other ↦ omega (arith, collected_gone m p q, cond-false {A = ℕ} (eqb p q) 1 0 (ne_eqb p q (λ is. other (sym is))), times_in-others p q m.entries other)
  ]

  pub collected_mark : (m : MaintainerState T) (p : ℕ) → IsFilled m p → mark_of (collected m p) ≡ mark_of m
  collected_mark m p was =
      let mark : IsMark (collected m p) (mark_of m) = mark_same (IsOwn m) (IsFilled m) (IsFilled (collected m p)) (collected_fills m p) (λ q. collected_was m p q was) (mark_of m) (is_mark m) in
      sym (mark_is (collected m p) (mark_of m) mark)
