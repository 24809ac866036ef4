-- Marks: up to where one's own positions are filled with no gap.
use Rattle.std.specs.Prelude.{◌≡◌, ◌⊎◌, ℕ, ◌+◌, ◌<◌, ◌≤◌}

-- p is one's own, and no position of one's own is unfilled up to it
pub record IsGapless (own filled : ℕ → Type 0) (p : ℕ) : Type 0 where
  pub here : own p
  pub all : (q : ℕ) → q ≤ p → own q → filled q

-- one more than a gapless position, or 1
abbrev pub IsOwnReached : (ℕ → Type 0) → (ℕ → Type 0) → ℕ → Type 0
IsOwnReached own filled k = (k ≡ 1) ⊎ ((p : ℕ) × (k ≡ p + 1) × IsGapless own filled p)

-- Mark: one more than the greatest gapless position, or 1 where there is none.
pub record IsMarkOf (own filled : ℕ → Type 0) (k : ℕ) : Type 0 where
  pub reached : IsOwnReached own filled k
  pub greatest : (p : ℕ) → IsGapless own filled p → p < k
