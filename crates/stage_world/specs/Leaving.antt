-- The rows that stages leave: each record is moved from where it stands to the row of its position.
use Rattle.std.specs.Prelude.{ℕ, ◌-◌, List, map, replicate, flat_map, fold, slice_set}
use Rattle.causal_deps.specs.declared.record.Place.{Place}
use Rattle.causal_deps.specs.declared.record.Record.{Record}
use Rattle.abstract_log.specs.declared.left.Row.{Row}
use Rattle.abstract_log.specs.declared.left.Row.TheVariants.{Kept, Gone}
use Rattle.maintainer.specs.Maintainers.{MaintainerState}
use Rattle.maintainer.specs.declared.slot.Slot.{Slot}
use Rattle.token_queue.specs.declared.entry.Entry.{Entry}
use Rattle.token_queue.specs.Queues.{QueueState}
use Rattle.stage_world.specs.Stages.{slot_of}

-- the rows, where position p has this one
abbrev pub with_row : List Row → ℕ → Row → List Row
with_row rows p row = slice_set rows (p - 1) row

abbrev pub with_slot : List Row → Slot Record → List Row
with_slot rows s = with_row rows s.lid (Kept s.value)

abbrev pub with_place : List Row → Place → List Row
with_place rows place = with_row rows place.lid (Gone place.host place.toid)

-- what is in outboxes, as maintainers keep it
abbrev pub slots_in : List (List Entry) → List (Slot Record)
slots_in outboxes = flat_map (λ es. map slot_of es) outboxes

-- what waits in the outboxes of all queues, and what the maintainers keep
abbrev pub slots_waiting : List QueueState → List (Slot Record)
slots_waiting qs = flat_map (λ q. slots_in q.outboxes) qs

abbrev pub slots_kept : List (MaintainerState Record) → List (Slot Record)
slots_kept ms = flat_map (λ m. m.entries) ms

-- rows of so many positions, of which nothing is told yet
abbrev pub blank_rows : ℕ → List Row
blank_rows n = replicate n (Gone 0 0)

-- the rows of so many positions, told by queues, maintainers and the places of what is gone
abbrev pub rows_told : ℕ → List QueueState → List (MaintainerState Record) → List Place → List Row
rows_told n qs ms places = fold with_place (fold with_slot (fold with_slot (blank_rows n) (slots_waiting qs)) (slots_kept ms)) places
