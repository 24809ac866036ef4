-- Stamping as a list of small moves, each of which leaves stages of its own.
use Rattle.std.proofs.Common.{ℕ, zero, suc, ◌+◌, List, [], ◌∷◌, Option, set}
use Rattle.std.specs.Option.{option_map_or}
use Rattle.causal_deps.specs.declared.record.Record.{Record}
use Rattle.causal_deps.specs.declared.record.Item.{Item}
use Rattle.abstract_log.specs.declared.event.Event.{Event}
use Rattle.token_queue.specs.declared.entry.Entry.{Entry}
use Rattle.token_queue.specs.Items.{record_from}
use Rattle.token_queue.specs.Queues.{TokenState, QueueState, with_entry, with_items, next_out}
use Rattle.stage_world.specs.Stages.{Datacentre, queue_at}
use Rattle.stage_world.specs.Turns.{sessions_after, stamp_event}

-- the entry of a record at the next position; the token and the queue after it
abbrev pub entry_at : TokenState → Record → Entry
entry_at t r = record { lid = t.last + 1; rec = r }

abbrev pub token_with : TokenState → Record → List Item → TokenState
token_with t r rest = record t { counts = set t.counts r.host r.toid; last = t.last + 1; deferred = rest }

abbrev pub queue_after : TokenState → QueueState → Record → QueueState
queue_after t q r = with_entry t.epochs (entry_at t r) q

-- the queue that has the token gives its items to the deferred ones, and takes the token's epochs
abbrev pub drawn_queue : TokenState → QueueState → QueueState
drawn_queue t q = record q { items = []; epochs = t.epochs }

abbrev pub drawn : Datacentre → Datacentre
drawn z = record z {
  queues = set z.queues z.token.at (drawn_queue z.token (queue_at z.queues z.token.at));
  token = with_items z.token (queue_at z.queues z.token.at).items;
}

-- an item leaves the deferred ones and becomes datacentre d's record at the next position
abbrev pub stamped_one : ℕ → Datacentre → Item × List Item → Datacentre
stamped_one d z found = record z {
  sessions = sessions_after found.0 (z.token.last + 1) (record_from d z.token.counts found.0) z.sessions;
  queues = set z.queues z.token.at (queue_after z.token (queue_at z.queues z.token.at) (record_from d z.token.counts found.0));
  token = token_with z.token (record_from d z.token.counts found.0) found.1;
}

-- its event
abbrev pub event_of_stamp : ℕ → Datacentre → Item → Event
event_of_stamp d z item = stamp_event d item (z.token.last + 1) (record_from d z.token.counts item)

-- the first deferred item that is ready
abbrev pub next_ready : Datacentre → Option (Item × List Item)
next_ready z = next_out z.token

-- at most so many times: the first deferred item that is ready is stamped
abbrev pub drained_on : ℕ → ℕ → Datacentre → Datacentre
drained_on d zero z = z
drained_on d (suc n) z = option_map_or (λ found. drained_on d n (stamped_one d z found)) (next_ready z) z

abbrev pub events_of_drain : ℕ → ℕ → Datacentre → List Event
events_of_drain d zero z = []
events_of_drain d (suc n) z = option_map_or (λ found. event_of_stamp d z found.0 ∷ events_of_drain d n (stamped_one d z found)) (next_ready z) []
