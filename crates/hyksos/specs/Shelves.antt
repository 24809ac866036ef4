-- What a session reads through: a log, and how much of it can be read.
use Rattle.std.specs.Prelude.{◌≡◌, ℕ, ◌≤◌, ◌%◌, if◌then◌else◌, nat_lt, List, length, take, Option, Some, None, slice_index, slice_index_or, slice_set, sum}
use Rattle.causal_deps.specs.declared.answers.Newest.{Newest}
use Rattle.causal_deps.specs.declared.answers.Newest.TheVariants.{Behind}
use Rattle.causal_deps.specs.declared.answers.Pin.{Pin}
use Rattle.causal_deps.specs.declared.answers.Pin.TheVariants.{Pinned, BelowFloor}
use Rattle.causal_deps.specs.declared.answers.Shown.{Shown}
use Rattle.causal_deps.specs.declared.answers.Shown.TheVariants.{Filled, Gone, Empty}
use Rattle.causal_deps.specs.declared.record.Place.{Place}
use Rattle.causal_deps.specs.declared.record.Record.{Record}
use Rattle.abstract_log.specs.Answers.{last_of, newest, places_with}
use Rattle.abstract_log.specs.Updates.{told_place}
use Rattle.cz_base.specs.declared.limits.TheConstants.{MEMBERS, SESSIONS}

-- its head, the collected positions, the collection floor, how far each indexer covers the log, and the pin of each session
pub record ShelfState : Type 0 where
  pub head : ℕ
  pub gone : List ℕ
  pub floor : ℕ
  pub covered : List ℕ
  pub pins : List (Option ℕ)

-- there is an indexer at least, and no more than there may be, and a place for the pin of each session that there may be
pub record IsShelf (m : ShelfState) : Type 0 where
  pub some : 1 ≤ length m.covered
  pub few : length m.covered ≤ MEMBERS
  pub pins : length m.pins ≡ SESSIONS

-- how far the indexer covers the log at which a key or tag has its home
abbrev pub covered_for : ShelfState → List ℕ → ℕ
covered_for m name = slice_index m.covered (sum name % length m.covered)

-- what is told of the last update of a key up to s
abbrev pub newest_told : List Record → ShelfState → List ℕ → ℕ → Newest
newest_told log m key s = if nat_lt (covered_for m key) s then Behind (covered_for m key) else told_place log (newest log key s)

-- the places of the last n records with the tag up to s
abbrev pub last_at : List Record → ℕ → List ℕ → ℕ → List Place
last_at log s tag n = last_of n (places_with tag 1 (take s log))

-- the record that is shown
abbrev pub record_shown : Shown Record → Option Record
record_shown (Filled r) = Some r.now
record_shown Gone = None
record_shown Empty = None

-- the position that is pinned for a session
abbrev pub pin_of : ShelfState → ℕ → Option ℕ
pin_of m n = slice_index_or m.pins n None

abbrev pub with_pin : ℕ → Option ℕ → ShelfState → ShelfState
with_pin n pin m = record m { pins = slice_set m.pins n pin }

-- position s is pinned for session n, unless it is below the collection floor
abbrev pub pin_told : ShelfState → ℕ → Pin
pin_told m s = if nat_lt s m.floor then BelowFloor m.floor else Pinned

abbrev pub pinned : ℕ → ℕ → ShelfState → ShelfState
pinned n s m = if nat_lt s m.floor then m else with_pin n (Some s) m
