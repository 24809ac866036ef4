-- Marks of a vector.
use Rattle.std.specs.Prelude.{◌≡◌, ℕ, ◌≤◌, List, length, All}
use Rattle.cz_base.specs.declared.limits.TheConstants.{MEMBERS}

-- one for each member that there may be, and each is 1 at least
pub record AreMarks (marks : List ℕ) : Type 0 where
  pub size : length marks ≡ MEMBERS
  pub some : All (λ k. 1 ≤ k) marks
