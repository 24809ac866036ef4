-- Where the items of a batcher go.
use Rattle.std.specs.Prelude.{ℕ, ◌%◌, ◌≤◌, List}
use Rattle.causal_deps.specs.declared.record.Item.{Item}
use Rattle.causal_deps.specs.declared.record.Item.TheVariants.{Local, External}
use Rattle.toid_filter.specs.declared.champions.Share.{Share}
use Rattle.toid_filter.specs.Champions.{champion}
use Rattle.batcher.specs.declared.Parcel.{Parcel}

-- the filter that an item goes to: a draft by its session, a record to the champion of its number
abbrev pub filter_for : List (List Share) → ℕ → Item → ℕ
filter_for map filters (Local draft) = draft.session % filters
filter_for map filters (External r) = champion map r.host r.toid

-- an item with its filter
abbrev pub parcel_of : List (List Share) → ℕ → Item → Parcel
parcel_of map filters item = record { filter = filter_for map filters item; item = item }

-- a record's number is at least 1
abbrev pub HasNumber : Item → Type 0
HasNumber (Local draft) = Unit {0}
HasNumber (External r) = 1 ≤ r.toid
