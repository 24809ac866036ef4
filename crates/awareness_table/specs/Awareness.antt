-- What a datacentre knows that each datacentre has.
use Rattle.std.specs.Prelude.{◌≡◌, ℕ, ◌<◌, ◌≤◌, nat_le, Bool, List, length, slice_index}
use Rattle.std.specs.List.{list_all}
use Rattle.causal_deps.specs.Counts.{entry_of}

-- the datacentre whose table it is, and the table: row k is what k is known to have
pub record Awareness : Type 0 where
  pub dc : ℕ
  pub table : List (List ℕ)

-- every row of the table has at least t for host h
abbrev pub is_known_everywhere : List (List ℕ) → ℕ → ℕ → Bool
is_known_everywhere table h t = list_all (λ row. nat_le t (slice_index row h)) table

-- the same, row by row
pub record IsKnownEverywhere (table : List (List ℕ)) (h t : ℕ) : Type 0 where
  pub each : (k : ℕ) → k < length table → t ≤ entry_of table k h

-- the least entry of column h
pub record IsLeast (table : List (List ℕ)) (h least : ℕ) : Type 0 where
  pub below : (k : ℕ) → k < length table → least ≤ entry_of table k h
  pub there : (k : ℕ) × (k < length table) × (entry_of table k h ≡ least)
