-- The collection floor and the pins of sessions, and which records may go.
use Rattle.std.specs.Prelude.{◌≡◌, ℕ, ◌<◌, ◌≤◌, ◌&&◌, min, max, Bool, true, false, nat_lt, nat_le, List, length, replicate, fold, Option, Some, None, IsSomeAnd, slice_set, slice_index_or}
use Rattle.causal_deps.specs.declared.record.Record.{Record}
use Rattle.causal_deps.specs.declared.record.Kind.{Kind}
use Rattle.causal_deps.specs.declared.record.Kind.TheVariants.{Append, Put, Del}
use Rattle.awareness_table.specs.Awareness.{IsKnownEverywhere, is_known_everywhere}
use Rattle.cz_base.specs.declared.limits.TheConstants.{SESSIONS}

-- the collection floor, and what each session reads at, by its number
pub record Floored : Type 0 where
  pub floor : ℕ
  pub pins : List (Option ℕ)

-- the pin of a session
abbrev pub pin_of : Floored → ℕ → Option ℕ
pin_of g session = slice_index_or g.pins session None

-- with no pin and nothing collected
abbrev pub fresh : Floored
fresh = record { floor = 0; pins = replicate SESSIONS None }

abbrev pub pinned : Floored → ℕ → ℕ → Floored
pinned g session s = record g { pins = slice_set g.pins session (Some s) }

abbrev pub unpinned : Floored → ℕ → Floored
unpinned g session = record g { pins = slice_set g.pins session None }

-- the lesser of a number and a pin
abbrev pub lesser : ℕ → Option ℕ → ℕ
lesser n None = n
lesser n (Some s) = min n s

-- the least of a number and the pins
abbrev pub lowest : ℕ → List (Option ℕ) → ℕ
lowest n pins = fold lesser n pins

-- the floor that it rises to: not above `to`, the head, what is covered, or a pin, and never lower than it is
abbrev pub raised : Floored → ℕ → ℕ → ℕ → ℕ
raised g to head covered = max g.floor (lowest (min (min to head) covered) g.pins)

-- There is a place for the pin of each session that there may be, and no pin is below the floor.
pub record AreHeld (floor : ℕ) (pins : List (Option ℕ)) : Type 0 where
  pub size : length pins ≡ SESSIONS
  pub above : (session s : ℕ) → slice_index_or pins session None ≡ Some s → floor ≤ s

-- A record at lid that may go: it is at or below the floor, every datacentre is known to have it, and if it is a put
-- there is a later update of its key at or below the floor.
pub record MayBeLetGo (floor : ℕ) (table : List (List ℕ)) (lid : ℕ) (rec : Record) (newer : Option ℕ) : Type 0 where
  pub low : lid ≤ floor
  pub known : IsKnownEverywhere table rec.host rec.toid
  pub replaced : rec.kind ≡ Put → IsSomeAnd newer (λ n. (lid < n) × (n ≤ floor))

-- the same as a test

abbrev pub replaced : ℕ → ℕ → Option ℕ → Bool
replaced floor lid None = false
replaced floor lid (Some n) = nat_lt lid n && nat_le n floor

-- only a put has to be replaced: what a del says stays with the index
abbrev pub unless_put : Kind → Bool → Bool
unless_put Append is_replaced = true
unless_put Put is_replaced = is_replaced
unless_put Del is_replaced = true

abbrev pub may_be_let_go : ℕ → List (List ℕ) → ℕ → Record → Option ℕ → Bool
may_be_let_go floor table lid rec newer =
    nat_le lid floor && (is_known_everywhere table rec.host rec.toid && unless_put rec.kind (replaced floor lid newer))
