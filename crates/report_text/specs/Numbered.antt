-- Lists made of the elements of another by their numbers, or of numbers alone.
use Rattle.std.specs.Prelude.{ℕ, zero, suc, ◌+◌, List, [], ◌∷◌, ◌++◌}

-- what f makes of each element and its number, from a number on
abbrev pub flat_map_from : {X Y : Type 0} → (ℕ → X → List Y) → ℕ → List X → List Y
flat_map_from f n [] = []
flat_map_from f n (x ∷ xs) = f n x ++ flat_map_from f (n + 1) xs

-- what f makes of each number below a bound
abbrev pub below : {Y : Type 0} → (ℕ → List Y) → ℕ → List Y
below f zero = []
below f (suc n) = below f n ++ f n
