-- What a stamping leaves of the stages that it is lent, what it answers, and its events.
use Rattle.std.specs.Prelude.{◌≡◌, ◌≢◌, ℕ, ◌+◌, ◌^◌, ◌<◌, ◌==◌, ◌&&◌, ⊤, if◌then◌else◌, List, [], ◌++◌, length, map, All, AllPairs, sum_by}
use Rattle.cz_base.specs.declared.limits.TheConstants.{NUMBERS_END}
use Rattle.std.specs.Option.{option_map_or}
use Rattle.causal_deps.specs.declared.record.Item.{Item}
use Rattle.causal_deps.specs.declared.record.Item.TheVariants.{Local, External}
use Rattle.abstract_log.specs.declared.event.Event.{Event}
use Rattle.abstract_log.specs.declared.event.Event.TheVariants.{Append, Add}
use Rattle.abstract_log.specs.declared.script.Outcome.{Outcome}
use Rattle.abstract_log.specs.declared.script.Outcome.TheVariants.{NoToken, Stamped}
use Rattle.token_queue.specs.declared.entry.Stamp.{Stamp}
use Rattle.token_queue.specs.Items.{FitsItem}
use Rattle.token_queue.specs.Drain.{Drained, drain_by}
use Rattle.token_queue.specs.Queues.{QueueState, TokenState, stamped_queue, entries_from}
pub use Rattle.hyksos.specs.Sessions.{acked}
use Rattle.stage_world.specs.Stages.{Session, is_draft_of}
use Rattle.stage_world.specs.Turns.{unless_empty, at_session, all_acknowledged, stamp_events, place_of_entry}
use Rattle.stage_world.specs.StandsFor.{numbers_of}

-- the items that a stamping drains, and what comes of it
abbrev pub items_of : QueueState → TokenState → List Item
items_of q t = t.deferred ++ q.items

abbrev pub drained_of : QueueState → TokenState → Drained
drained_of q t = drain_by t.dc t.counts (items_of q t)

-- what the queue is after its turn; without the token it is as it was
abbrev pub queue_stamped : QueueState → QueueState
queue_stamped q = option_map_or (λ t. stamped_queue q t (drained_of q t)) q.token q

-- the sessions after it
abbrev pub sessions_stamped : QueueState → List Session → List Session
sessions_stamped q xs = option_map_or (λ t. all_acknowledged t.last (drained_of q t).stamped (drained_of q t).records xs) q.token xs

-- what is answered
abbrev pub stamped_outcome : QueueState → TokenState → Outcome
stamped_outcome q t =
    unless_empty (items_of q t) (Stamped (map place_of_entry (entries_from t.last (drained_of q t).records)) (length (drained_of q t).deferred))

abbrev pub outcome_stamped : QueueState → Outcome
outcome_stamped q = option_map_or (λ t. stamped_outcome q t) q.token NoToken

-- its events at datacentre d
abbrev pub events_stamped : ℕ → QueueState → List Event
events_stamped d q = option_map_or (λ t. stamp_events d t.last (drained_of q t).stamped (drained_of q t).records) q.token []

-- a draft, or a record of another datacentre than d
abbrev pub IsNewAt : ℕ → Item → Type 0
IsNewAt d (Local draft) = ⊤
IsNewAt d (External r) = r.host ≢ d

-- Queue q stamps with token t at datacentre d, whose sessions are xs.
pub record MayStamp (d : ℕ) (q : QueueState) (t : TokenState) (xs : List Session) : Type 0 where
  pub here : t.dc ≡ d
  pub lids : t.last + length (drained_of q t).records < NUMBERS_END
  pub fit : All (FitsItem (length t.counts)) q.items
  pub new : All (IsNewAt d) (items_of q t)
  pub ordered : AllPairs (λ a b. a < b) (numbers_of xs)
  pub pasts : All (λ x. d < length x.standing.past) xs
  pub few : All (λ x. x.standing.answered + sum_by (is_draft_of x.number) (items_of q t) < 2 ^ 32) xs

-- the sessions, once the stamp of a record of datacentre d went to its own
abbrev pub acked_by : ℕ → List Session → Stamp → List Session
acked_by d xs stamp = if stamp.place.host == d then at_session stamp.session (acked stamp.place) xs else xs

-- the event of a stamp at datacentre d
abbrev pub event_of : ℕ → Stamp → Event
event_of d stamp =
    if stamp.place.host == d
    then Append d stamp.session stamp.index stamp.place.lid stamp.place.toid
    else Add d stamp.place.lid stamp.place.host stamp.place.toid

-- 1 for a stamp of a write of session s of datacentre d
abbrev pub is_ack_of : ℕ → ℕ → Stamp → ℕ
is_ack_of d s stamp = if (stamp.place.host == d) && (stamp.session == s) then 1 else 0

-- Each stamp can go to its session.
pub record CanAck (d : ℕ) (stamps : List Stamp) (xs : List Session) : Type 0 where
  pub ordered : AllPairs (λ a b. a < b) (numbers_of xs)
  pub pasts : All (λ x. d < length x.standing.past) xs
  pub few : All (λ x. x.standing.answered + sum_by (is_ack_of d x.number) stamps < 2 ^ 32) xs
