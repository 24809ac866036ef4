-- How far bytes go on as some spelling does.
use Rattle.std.specs.Prelude.{ℕ, ◌<◌, ◌≤◌, List, ◌++◌, length, take}
use Rattle.record_codec.specs.declared.fault.DecodeFault.{DecodeFault}
use Rattle.record_codec.specs.declared.fault.DecodeFault.TheVariants.{Malformed, NoMemory}

-- some spelling begins with the text
abbrev pub Begins : (List ℕ → Type 0) → List ℕ → Type 0
Begins IsSpelling text = (more : List ℕ) × IsSpelling (text ++ more)

-- the bytes are no spelling, and so many of them, and no more, begin one
pub record IsBadAt (IsSpelling : List ℕ → Type 0) (bytes : List ℕ) (at : ℕ) : Type 0 where
  pub bad : ¬ IsSpelling bytes
  pub within : at ≤ length bytes
  pub begun : Begins IsSpelling (take at bytes)
  pub longest : (n : ℕ) → at < n → n ≤ length bytes → ¬ Begins IsSpelling (take n bytes)

-- why bytes are refused; want of memory may come at any of them
abbrev pub IsRefusedBytes : (List ℕ → Type 0) → List ℕ → DecodeFault → Type 0
IsRefusedBytes IsSpelling bytes (Malformed at) = IsBadAt IsSpelling bytes at
IsRefusedBytes IsSpelling bytes NoMemory = Unit {0}
