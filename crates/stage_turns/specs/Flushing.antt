-- What filters take from a batcher.
use Rattle.std.specs.Prelude.{◌≡◌, ⊤, ℕ, ◌<◌, ◌≤◌, List, length, slice_set, All}
use Rattle.cz_base.specs.declared.limits.TheConstants.{MEMBERS}
use Rattle.causal_deps.specs.declared.record.Item.{Item}
use Rattle.causal_deps.specs.declared.record.Item.TheVariants.{Local, External}
use Rattle.abstract_log.specs.declared.script.FlushItem.{FlushItem}
use Rattle.toid_filter.specs.declared.champions.Share.{Share}
use Rattle.toid_filter.specs.Champions.{champion}
use Rattle.toid_filter.specs.Filters.{FilterState, FitsFilter, filter_at, with_item}
use Rattle.batcher.specs.declared.Parcel.{Parcel}
use Rattle.stage_world.specs.Turns.{name_of, way_of}

-- The filters stand by number, with one map, and the champion of each number is one of them.
pub record AreServing (map : List (List Share)) (fs : List FilterState) : Type 0 where
  pub one_map : All (λ f. f.map ≡ map) fs
  pub numbers : (i : ℕ) → i < length fs → (filter_at fs i).number ≡ i
  pub there : (h t : ℕ) → champion map h t < length fs
  pub few : length fs ≤ MEMBERS

-- a draft, or a record with a number, of one of so many hosts
abbrev pub IsOfHosts : ℕ → Item → Type 0
IsOfHosts hosts (Local draft) = ⊤
IsOfHosts hosts (External r) = (r.host < hosts) × (1 ≤ r.toid)

-- These items may go to the filters.
pub record MayFlush (map : List (List Share)) (fs : List FilterState) (items : List Item) : Type 0 where
  pub serving : AreServing map fs
  pub of_hosts : All (IsOfHosts (length map)) items

-- the filter may take the item
abbrev pub MayTake : FilterState → Item → Type 0
MayTake f (Local draft) = ⊤
MayTake f (External r) = FitsFilter f r

-- the filters, once the parcel's item went to its filter
abbrev pub taken_from : List FilterState → Parcel → List FilterState
taken_from fs parcel = slice_set fs parcel.filter (with_item (filter_at fs parcel.filter) parcel.item)

-- what became of it
abbrev pub told_of : List FilterState → Parcel → FlushItem
told_of fs parcel = record { name = name_of parcel.item; filter = parcel.filter; way = way_of (filter_at fs parcel.filter) parcel.item }
