-- Bytes that all pass a test.
use Rattle.std.proofs.Common.{arith, refl, ◌≡◌, ℕ, Bool, true, List, [], ◌∷◌, None, length, not}
use Rattle.std.specs.List.{list_all, position_or_len}
use Rattle.cz_base.specs.Text.{first_bad}

none_stops : (good : ℕ → Bool) (bytes : List ℕ) → list_all good bytes ≡ true → position_or_len (λ b. not (good b)) bytes ≡ length bytes
none_stops good [] all = refl
none_stops good (b ∷ bytes) all = grind (arith, none_stops good bytes)

pub nothing_bad : (good : ℕ → Bool) (bytes : List ℕ) → list_all good bytes ≡ true → first_bad good bytes ≡ None
nothing_bad good bytes all = grind (arith, none_stops good bytes all)
