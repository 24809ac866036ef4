-- Marks of members, and the head of the log: the position up to which there is no gap.
use Rattle.std.specs.Prelude.{◌≡◌, ◌⊎◌, ℕ, zero, suc, ◌+◌, ◌<◌, ◌≤◌, if◌then◌else◌, nat_lt, Bool, IsTrue, List, sum, replicate, slice_index, slice_set, All}
use Rattle.causal_deps.specs.Counts.{greater, raised}
use Rattle.flstore_rounds.specs.Epochs.{EpochList, owner, IsPrefix, later_than, longer}
use Rattle.cz_base.specs.declared.limits.TheConstants.{MEMBERS}

-- an epoch list, and for each member that there may be the position below which it has all that it owns
pub record Pair : Type 0 where
  pub epochs : EpochList
  pub marks : List ℕ

abbrev pub mark_at : Pair → ℕ → ℕ
mark_at v m = slice_index v.marks m

-- nothing is marked
abbrev pub blank : EpochList → Pair
blank e = record { epochs = e; marks = replicate MEMBERS 1 }

-- a pair that speaks of one member
abbrev pub single : EpochList → ℕ → ℕ → Pair
single e m mark = record { epochs = e; marks = slice_set (replicate (m + 1) 0) m mark }

-- what two pairs say together: the longer list with the greater marks
abbrev pub joined : Pair → Pair → Pair
joined v u = record { epochs = longer v.epochs u.epochs; marks = greater v.marks u.marks }

-- what a pair says once it takes one member's list and mark
abbrev pub with_own : Pair → EpochList → ℕ → ℕ → Pair
with_own v e m mark = record { epochs = longer v.epochs e; marks = raised v.marks m mark }

-- the owner of p has marked it
abbrev pub IsBelowMark : Pair → ℕ → Type 0
IsBelowMark v p = p < mark_at v (owner v.epochs p)

-- Head of the log: s is the greatest position up to which each is below the mark of its owner.
pub record IsHead (v : Pair) (s : ℕ) : Type 0 where
  pub below : (p : ℕ) → 1 ≤ p → p ≤ s → IsBelowMark v p
  pub stops : mark_at v (owner v.epochs (s + 1)) ≤ s + 1

-- how far one gets from s, in at most so many positions, while each is below the mark of its owner
abbrev pub head_from : Pair → ℕ → ℕ → ℕ
head_from v zero s = s
head_from v (suc n) s = if nat_lt (s + 1) (mark_at v (owner v.epochs (s + 1))) then head_from v n (s + 1) else s

-- the same as a number: no head is as great as all marks together
abbrev pub head : Pair → ℕ
head v = head_from v (sum v.marks) 0

-- the mark of member m is 1 at most, or one more than a placed position that it owns
abbrev pub IsReached : Pair → (ℕ → Type 0) → ℕ → Type 0
IsReached v P m = (mark_at v m ≤ 1) ⊎ ((p : ℕ) × (mark_at v m ≡ p + 1) × P p × (owner v.epochs p ≡ m))

-- Truth of a pair, where the whole epoch list is t and the placed positions are those of P.
pub record IsTruePair (t : EpochList) (P : ℕ → Type 0) (v : Pair) : Type 0 where
  pub known : IsPrefix v.epochs t
  pub reached : (m : ℕ) → IsReached v P m
  pub filled : (p : ℕ) → 1 ≤ p → p < mark_at v (owner v.epochs p) → P p
  pub settled : (m : ℕ) → All (λ n. mark_at v m ≤ n.start) (later_than v.epochs t)

-- the same where the placed positions are given by a test
abbrev pub IsTrueOf : EpochList → (ℕ → Bool) → Pair → Type 0
IsTrueOf t placed v = IsTruePair t (λ p. IsTrue (placed p)) v

-- Truth of one mark: k is the mark of member m by list e, where the whole list is t and the placed positions are those of P.
pub record IsTrueMark (t e : EpochList) (P : ℕ → Type 0) (m k : ℕ) : Type 0 where
  pub known : IsPrefix e t
  pub reached : (k ≤ 1) ⊎ ((p : ℕ) × (k ≡ p + 1) × P p × (owner e p ≡ m))
  pub filled : (p : ℕ) → 1 ≤ p → p < k → owner e p ≡ m → P p
  pub settled : All (λ n. k ≤ n.start) (later_than e t)
