-- The turn of a session, cut to the stages that it needs.
use Rattle.std.specs.Prelude.{◌≡◌, ℕ, ◌<◌, ◌≤◌, ◌%◌, ◌||◌, Bool, true, false, not, if◌then◌else◌, is_some, List, [], ◌∷◌, ◌++◌, length, Option, slice_set}
use Rattle.cz_base.specs.declared.limits.TheConstants.{MEMBERS, SESSIONS}
use Rattle.std.specs.Option.{option_map_or}
use Rattle.causal_deps.specs.declared.record.Record.{Record}
use Rattle.causal_deps.specs.declared.record.Draft.{Draft}
use Rattle.causal_deps.specs.declared.record.Item.{Item}
use Rattle.causal_deps.specs.declared.record.Item.TheVariants.{Local}
use Rattle.abstract_log.specs.declared.event.Event.{Event}
use Rattle.abstract_log.specs.declared.event.Event.TheVariants.{Submit, Reply}
use Rattle.abstract_log.specs.declared.script.Outcome.{Outcome}
use Rattle.abstract_log.specs.declared.script.Outcome.TheVariants.{Behind, Below, Finished, Key, Replied, Submitted, Unacknowledged, Waiting}
use Rattle.flstore_rounds.specs.Heads.{Pair}
use Rattle.hyksos.specs.declared.next.Next.{Next}
use Rattle.hyksos.specs.declared.next.Next.TheVariants.{Submitted as SubmittedNext, Replied as RepliedNext, Key as KeyNext, Waiting as WaitingNext, Unacknowledged as UnacknowledgedNext, Below as BelowNext, Behind as BehindNext, Finished as FinishedNext}
use Rattle.hyksos.specs.declared.next.SessionTurnDone.{SessionTurnDone}
pub use Rattle.hyksos.specs.Sessions.{is_unanswered, next_command, next_index, writes}
use Rattle.hyksos.specs.Sessions.{SessionState, HasFound, draft_submitted}
use Rattle.hyksos.specs.Shelves.{ShelfState}
use Rattle.hyksos.specs.Turns.{session_turn, turned}
use Rattle.log_gc.specs.Floors.{Floored, pin_of}
use Rattle.maintainer.specs.Maintainers.{MaintainerState}
use Rattle.tag_indexer.specs.Indexers.{IndexerState}
use Rattle.stage_world.specs.Stages.{batcher_at, vector_at}
use Rattle.stage_turns.specs.declared.done.TurnDone.{TurnDone}
use Rattle.stage_turns.specs.Shelves.{ShowsLog, shelf_of}

-- the batchers with a draft of session s last in the one that serves it
abbrev pub with_draft : ℕ → List (List Item) → Draft → List (List Item)
with_draft s bs draft = slice_set bs (s % length bs) (batcher_at bs (s % length bs) ++ Local draft ∷ [])

abbrev pub batchers_written : SessionState → List (List Item) → List (List Item)
batchers_written x bs = option_map_or (with_draft x.number bs) (draft_submitted x) bs

abbrev pub write_outcome : SessionState → Outcome
write_outcome x = if x.standing.begun then Unacknowledged (next_index x) else Submitted (next_index x)

abbrev pub write_events : SessionState → List Event
write_events x = if x.standing.begun then [] else Submit x.number (next_index x) ∷ []

-- Session s of a datacentre with these batchers may write.
pub record MayWrite (s : ℕ) (x : SessionState) (bs : List (List Item)) : Type 0 where
  pub number : x.number ≡ s
  pub writes : writes x ≡ true
  pub batcher : 1 ≤ length bs

-- the shelf of session s at a datacentre that began with `first` maintainers
abbrev pub shelf_for : ℕ → ℕ → List (MaintainerState Record) → List Pair → List IndexerState → Floored → ShelfState
shelf_for s first ms vs is g = shelf_of (vector_at vs (s % first)) ms is g

-- what the turn comes to
abbrev pub outcome_of : Next → Outcome
outcome_of (SubmittedNext draft) = Submitted draft.index
outcome_of (RepliedNext k at answer) = Replied k
outcome_of (KeyNext k done all at) = Key k done all at
outcome_of (WaitingNext k floor top) = Waiting k floor top
outcome_of (UnacknowledgedNext k) = Unacknowledged k
outcome_of (BelowNext k floor) = Below k floor
outcome_of (BehindNext k covered) = Behind k covered
outcome_of FinishedNext = Finished

-- the event where a command is begun
abbrev pub begin_events : ℕ → Option ℕ → List Event
begin_events s opened = option_map_or (λ k. Submit s k ∷ []) opened []

-- the event where one is answered
abbrev pub reply_events : ℕ → ℕ → Next → List Event
reply_events d s (SubmittedNext draft) = []
reply_events d s (RepliedNext k at answer) = Reply d s k at answer ∷ []
reply_events d s (KeyNext k done all at) = []
reply_events d s (WaitingNext k floor top) = []
reply_events d s (UnacknowledgedNext k) = []
reply_events d s (BelowNext k floor) = []
reply_events d s (BehindNext k covered) = []
reply_events d s FinishedNext = []

abbrev pub events_of : ℕ → ℕ → SessionTurnDone → List Event
events_of d s t = begin_events s t.opened ++ reply_events d s t.next

-- the command went on, of a session that had a pin or had none
abbrev pub goes_on : Bool → Next → Bool
goes_on was_pinned (SubmittedNext draft) = true
goes_on was_pinned (RepliedNext k at answer) = true
goes_on was_pinned (KeyNext k done all at) = true
goes_on was_pinned (WaitingNext k floor top) = false
goes_on was_pinned (UnacknowledgedNext k) = false
goes_on was_pinned (BelowNext k floor) = false
goes_on was_pinned (BehindNext k covered) = not was_pinned
goes_on was_pinned FinishedNext = false

-- a command was begun, or went on
abbrev pub session_changes : Bool → SessionTurnDone → Bool
session_changes was_pinned t = is_some t.opened || goes_on was_pinned t.next

-- What the turn of a session of datacentre d leaves of it and of the pins, and what it tells.
pub record IsSessionTurn (d : ℕ) (log : List Record) (m : ShelfState) (x : SessionState) (done : TurnDone) (new : SessionState) (after : Floored) : Type 0 where
  pub session : new ≡ (session_turn log m x).session
  pub floor : after ≡ record { floor = (session_turn log m x).shelf.floor; pins = (session_turn log m x).shelf.pins }
  pub outcome : done.outcome ≡ outcome_of (session_turn log m x).next
  pub events : done.events ≡ events_of d x.number (turned log m x)
  pub changed : done.changed ≡ session_changes (is_some x.pin) (turned log m x)

-- Session s may read, or look up, at a datacentre that began with `first` maintainers: what its stages make is a shelf, which shows
-- some log, and what the session has found so far is that log's.
pub record MayRead (s first : ℕ) (x : SessionState) (ms : List (MaintainerState Record)) (vs : List Pair) (is : List IndexerState) (g : Floored) : Type 0 where
  pub number : x.number ≡ s
  pub small : s < SESSIONS
  pub reads : writes x ≡ false
  pub some : 1 ≤ first
  pub vector : s % first < length vs
  pub indexers : (1 ≤ length is) × (length is ≤ MEMBERS)
  pub pin : pin_of g s ≡ x.pin
  pub log : List Record
  pub shows : ShowsLog (vector_at vs (s % first)) ms is g log
  pub found : HasFound log x
