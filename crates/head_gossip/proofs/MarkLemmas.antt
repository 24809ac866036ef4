-- Marks that are raised, and what stays of them.
use Rattle.std.proofs.Common.{◌≡◌, ℕ, Bool, IsTrue, ◌<◌, ◌≤◌, max, List, length, get_or, replicate, inl, inr, sym, ◌∙◌, arith, ext_get_or, ap}
use Rattle.std.proofs.lemmas.List.{get_or-set_same, get_or-set_other, length-set, length-replicate}
use Rattle.std.proofs.lemmas.List.Elements.{All-from_get_or, All-get_or, All-replicate}
use Rattle.std.proofs.lemmas.Bool.{cases_eq}
use Rattle.causal_deps.specs.Counts.{greater, raised}
use Rattle.causal_deps.proofs.CountsLemmas.{IsMergedBelow, get_or-greater, length-greater}
use Rattle.flstore_rounds.specs.Epochs.{EpochList}
use Rattle.flstore_rounds.specs.Heads.{Pair, joined, with_own, IsTrueMark, IsTrueOf}
use Rattle.head_gossip.specs.Marks.{AreMarks}
use Rattle.flstore_rounds.proofs.HeadLemmas.{joined_true, single_true, with_own_true}

pub all_raised : (n : ℕ) (old told new : List ℕ) → length old ≡ length told → length old ≤ n → IsMergedBelow n old told new → new ≡ greater old told
all_raised n old told new alike whole h =
    ext_get_or 0 new (greater old told) (omega (arith, length-greater old told alike, h.same))
    (λ k within. h.below k (omega (arith, h.same)) ∙ sym (get_or-greater old told k))

-- no mark falls below 1

pub blank_marks : AreMarks (replicate 16 1)
blank_marks = record { size = length-replicate {A = ℕ} 16 1; some = All-replicate (λ (k : ℕ). 1 ≤ k) 16 1 (omega arith) }

pub marks_raised : (xs : List ℕ) (m k : ℕ) → AreMarks xs → AreMarks (raised xs m k)
marks_raised xs m k h = record {
  size = length-set xs m (max (get_or xs m 0) k) ∙ h.size;
  some = All-from_get_or (λ (x : ℕ). 1 ≤ x) (raised xs m k) 0 (λ i within.
      let inside : i < length xs = omega (arith, length-set xs m (max (get_or xs m 0) k)) in
      let old : 1 ≤ get_or xs i 0 = All-get_or (λ (x : ℕ). 1 ≤ x) xs i 0 inside h.some in
      elim (cases_eq i m) [
        | inl same ↦ omega (arith, ap (λ j. get_or (raised xs m k) j 0) same, ap (λ j. get_or xs j 0) same, get_or-set_same xs m (max (get_or xs m 0) k) 0 (omega arith))
        | inr other ↦ omega (arith, get_or-set_other xs m i (max (get_or xs m 0) k) 0 other)
      ]);
}

pub marks_greater : (xs ys zs : List ℕ) → zs ≡ greater xs ys → length zs ≡ 16 → AreMarks xs → AreMarks zs
marks_greater xs ys zs is size h = record {
  size = size;
  some = All-from_get_or (λ (x : ℕ). 1 ≤ x) zs 0 (λ i within.
      omega (arith, ap (λ ws. get_or ws i 0) is, get_or-greater xs ys i, All-get_or (λ (x : ℕ). 1 ≤ x) xs i 0 (omega (arith, h.size)) h.some));
}

-- what a vector has become is true, as what it was and what it took in are
pub owned_is_true : (t : EpochList) (placed : ℕ → Bool) (v w : Pair) (e : EpochList) (m k : ℕ) → w ≡ with_own v e m k → IsTrueOf t placed v → IsTrueMark t e (λ p. IsTrue (placed p)) m k → IsTrueOf t placed w
owned_is_true t placed v w e m k is old own = rw is (with_own_true t e (λ p. IsTrue (placed p)) v m k old (single_true t e (λ p. IsTrue (placed p)) m k own))

pub heard_is_true : (t : EpochList) (placed : ℕ → Bool) (v u w : Pair) → w ≡ joined v u → IsTrueOf t placed v → IsTrueOf t placed u → IsTrueOf t placed w
heard_is_true t placed v u w is old told = rw is (joined_true t (λ p. IsTrue (placed p)) v u old told)
