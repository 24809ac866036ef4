-- A stock: records at places that rise.
use Rattle.std.specs.Prelude.{◌≡◌, ℕ, suc, ◌<◌, ◌≤◌, ◌==◌, nat_lt, List, [], ◌∷◌, map, find, Option, Contains}
use Rattle.std.proofs.Common.{arith}
use Rattle.std.specs.Option.{option_map}
use Rattle.causal_deps.specs.declared.record.Record.{Record}

-- a record and its place
pub record Stocked : Type 0 where
  pub lid : ℕ
  pub rec : Record

-- each place is above the one before it, and the first is above low
abbrev pub IsRisingFrom : ℕ → List Stocked → Type 0
IsRisingFrom low [] = Unit {0}
IsRisingFrom low (x ∷ xs) = (low < x.lid) × IsRisingFrom x.lid xs

-- the first place above lid
abbrev pub place_after : List Stocked → ℕ → Option ℕ
place_after held lid = option_map (λ x. x.lid) (find (λ x. nat_lt lid x.lid) held)

-- next is the least place above lid
pub record IsLeastAbove (held : List Stocked) (lid next : ℕ) : Type 0 where
  pub past : lid < next
  pub there : (x : Stocked) × Contains held x × (x.lid ≡ next)
  pub least : (x : Stocked) → Contains held x → lid < x.lid → next ≤ x.lid

-- no place is above lid
pub record IsNoneAbove (held : List Stocked) (lid : ℕ) : Type 0 where
  pub each : (x : Stocked) → Contains held x → x.lid ≤ lid

-- the record at the place lid
abbrev pub record_placed : List Stocked → ℕ → Option Record
record_placed held lid = option_map (λ x. x.rec) (find (λ x. x.lid == lid) held)

-- the records, in the order of their places
abbrev pub records_in : List Stocked → List Record
records_in held = map (λ x. x.rec) held

-- the records of a list at the places from n on
abbrev pub stocked_from : ℕ → List Record → List Stocked
stocked_from n [] = []
stocked_from n (r ∷ rs) = record { lid = n; rec = r } ∷ stocked_from (suc n) rs

pub stocked_rise : (n low : ℕ) (records : List Record) → low < n → IsRisingFrom low (stocked_from n records)
stocked_rise n low [] past = tt
stocked_rise n low (r ∷ rs) past = (past, stocked_rise (suc n) n rs (omega arith))
