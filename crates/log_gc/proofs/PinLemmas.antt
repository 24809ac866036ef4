-- The least of a number and the pins is at most each of them.
use Rattle.std.proofs.Common.{◌≡◌, ℕ, zero, suc, ◌≤◌, min, max, List, [], ◌∷◌, Option, Some, None, get_or, refl, arith}
use Rattle.log_gc.specs.Floors.{AreHeld, lowest}

pub lowest_bound : (n : ℕ) (pins : List (Option ℕ)) → lowest n pins ≤ n
lowest_bound n [] = omega arith
lowest_bound n (None ∷ pins) = lowest_bound n pins
lowest_bound n (Some s ∷ pins) = omega (arith, lowest_bound (min n s) pins)

pub lowest_pin : (n session s : ℕ) (pins : List (Option ℕ)) → get_or pins session None ≡ Some s → lowest n pins ≤ s
lowest_pin n session s [] is = absurd (cc)
lowest_pin n zero s (None ∷ pins) is = absurd (cc)
lowest_pin n zero s (Some t ∷ pins) is = let same : t ≡ s = cc in omega (arith, lowest_bound (min n t) pins)
lowest_pin n (suc session) s (None ∷ pins) is = lowest_pin n session s pins is
lowest_pin n (suc session) s (Some t ∷ pins) is = lowest_pin (min n t) session s pins is

-- and it is the greatest number that is at most each of them
pub lowest_greatest : (m n : ℕ) (pins : List (Option ℕ)) → m ≤ n → ((session s : ℕ) → get_or pins session None ≡ Some s → m ≤ s) → m ≤ lowest n pins
lowest_greatest m n [] low each = low
lowest_greatest m n (None ∷ pins) low each = lowest_greatest m n pins low (λ session s at. each (suc session) s at)
lowest_greatest m n (Some t ∷ pins) low each = lowest_greatest m (min n t) pins (omega (arith, each 0 t refl)) (λ session s at. each (suc session) s at)

-- the floor that it rises to is not above a pin
pub raised_held : (floor bound low new : ℕ) (pins : List (Option ℕ)) → AreHeld floor pins → low ≡ lowest bound pins → new ≡ max floor low → AreHeld new pins
raised_held floor bound low new pins held is_low is_new = record {
  size = held.size;
  above = λ session s at. omega (arith, held.above session s at, lowest_pin bound session s pins at);
}
