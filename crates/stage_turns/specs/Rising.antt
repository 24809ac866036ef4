-- That places rise is a fact with one proof.
use Rattle.std.specs.Prelude.{ℕ, List, [], ◌∷◌}
use Rattle.std.specs.Coded.{×_prop, Unit-prop, le_prop}
use Rattle.sender_receiver.specs.Stocks.{Stocked, IsRisingFrom}

pub rising_once : (low : ℕ) (held : List Stocked) → IsProp (IsRisingFrom low held)
rising_once low [] = Unit-prop
rising_once low (x ∷ xs) = ×_prop le_prop (rising_once x.lid xs)
