-- How far the collection floor rises, and which entries of a maintainer may go.
use Rattle.std.specs.Prelude.{◌≡◌, ℕ, ◌<◌, ◌≤◌, ◌==◌, ◌&&◌, ◌||◌, Bool, true, not, nat_lt, nat_le, List, length, map, find, filter, fold, min, Option, Some, None, All, slice_get, unwrap_or}
use Rattle.cz_base.specs.declared.limits.TheConstants.{MEMBERS}
use Rattle.std.specs.List.{list_all}
use Rattle.std.specs.Option.{option_and_then}
use Rattle.causal_deps.specs.declared.record.Kind.{Kind}
use Rattle.causal_deps.specs.declared.record.Kind.TheVariants.{Append, Put, Del}
use Rattle.causal_deps.specs.Kinds.{is_put}
use Rattle.causal_deps.specs.declared.record.Record.{Record}
use Rattle.causal_deps.specs.declared.record.Place.{Place}
use Rattle.awareness_table.specs.Awareness.{is_known_everywhere}
use Rattle.flstore_rounds.specs.Heads.{head}
use Rattle.log_gc.specs.Floors.{Floored, raised}
use Rattle.maintainer.specs.declared.slot.Slot.{Slot}
use Rattle.tag_indexer.specs.Indexers.{IndexerState, newest_position}
use Rattle.tag_indexer.specs.Rows.{home, newest_row}
use Rattle.stage_world.specs.Stages.{indexer_at, no_indexer}

-- what is covered by each indexer
abbrev pub covered_by : List IndexerState → List ℕ
covered_by is = map (λ i. head i.pair) is

-- the floor that it rises to, where the first vector and the indexers tell these
abbrev pub risen : Floored → ℕ → ℕ → List ℕ → ℕ
risen g p top covered = raised g p top (fold min top covered)

-- the indexer that a tag is looked up at
abbrev pub home_among : List IndexerState → List ℕ → IndexerState
home_among is tag = unwrap_or (find (λ i. i.number == home tag (length is)) is) no_indexer

-- Indexers stand by number, and each counts them.
pub record AreHomes (is : List IndexerState) : Type 0 where
  pub some : 1 ≤ length is
  pub few : length is ≤ MEMBERS
  pub each : (i : ℕ) → i < length is → ((indexer_at is i).number ≡ i) × ((indexer_at is i).indexers ≡ length is)

-- where the last update of a put's key at or below s is, if the key's home is that far
abbrev pub newest_for : List IndexerState → Kind → List (List ℕ) → ℕ → Option ℕ
newest_for is Append tags s = None
newest_for is Put tags s = option_and_then (λ key. newest_position (home_among is key) key s) (slice_get tags 0)
newest_for is Del tags s = None

abbrev pub newest_of : List IndexerState → Record → ℕ → Option ℕ
newest_of is r s = newest_for is r.kind r.tags s

-- the record at an entry may go
abbrev pub may_go : ℕ → List (List ℕ) → List IndexerState → Slot Record → Bool
may_go floor table is e =
    nat_le e.lid floor && (is_known_everywhere table e.value.host e.value.toid
    && (not (is_put e.value.kind) || list_all (λ key. nat_le floor (head (home_among is key).pair) && nat_lt e.lid (newest_row (home_among is key).rows key floor)) e.value.tags))

-- the entries that may go
abbrev pub to_go : ℕ → List (List ℕ) → List IndexerState → List (Slot Record) → List (Slot Record)
to_go floor table is es = filter (may_go floor table is) es

-- the position of an entry, and of a place
abbrev pub lid_at : Slot Record → ℕ
lid_at e = e.lid

abbrev pub lid_of_place : Place → ℕ
lid_of_place place = place.lid

-- A record is of one of so many datacentres, and a put has one tag.
pub record IsKeyed (dcs : ℕ) (r : Record) : Type 0 where
  pub host : r.host < dcs
  pub key : is_put r.kind ≡ true → length r.tags ≡ 1

-- The entries have such records, and each tag is looked up at its home.
pub record MayCollect (dcs : ℕ) (is : List IndexerState) (es : List (Slot Record)) : Type 0 where
  pub records : All (λ e. IsKeyed dcs e.value) es
  pub homes : AreHomes is
