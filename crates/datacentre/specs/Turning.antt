-- What a turn of a datacentre asks, what it leaves, and what it answers.
use Rattle.std.specs.Prelude.{◌≡◌, ◌⊎◌, ⊤, ℕ, ◌<◌, ◌≤◌, false, List, length, Option, Some, None, Result, MatchOption, MatchResult}
use Rattle.cz_base.specs.declared.limits.TheConstants.{MEMBERS, NUMBERS_END}
use Rattle.abstract_log.specs.declared.script.Step.{Step}
use Rattle.abstract_log.specs.declared.script.Step.TheVariants.{Client, Flush, Pass, Stamp, Token, Place, Gossip, Post, Learn, Send, Deliver, Lose, Copy, Floor, Collect, Announce, Mark, AddMaintainer, AddBatcher, AddQueue, AddSender, AddReceiver, Upgrade}
use Rattle.stage_world.specs.Stages.{Datacentre}
use Rattle.abstract_log.specs.declared.script.Outcome.TheVariants.{Sent}
use Rattle.record_codec.specs.Wire.{SpellsIn}
use Rattle.sender_receiver.specs.Sending.{form_of}
use Rattle.stage_world.specs.Turns.{Turned, quiet}
use Rattle.stage_world.specs.MoreTurns.{message_of, names_of}
use Rattle.stage_world.specs.Schedules.{turn_of}
use Rattle.stage_world.specs.Idle.{TellsChange}
use Rattle.datacentre.specs.declared.parts.Parts.{Parts}
use Rattle.stage_turns.specs.declared.done.TurnDone.{TurnDone}
use Rattle.datacentre.specs.Seen.{DatacentreState, IsWhole, StandsForALog, seen}

-- The parts stand for some log.
pub record MayTurn (p : Parts) : Type 0 where
  pub whole : IsWhole p
  pub log : StandsForALog p.dc (seen p)

-- The parts are those that this turn leaves, its outcome and events are answered, and whether it changed something.
pub record IsTurned (old new : Parts) (done : TurnDone) (turned : Turned) : Type 0 where
  pub stages : seen new ≡ turned.after
  pub here : new.dc ≡ old.dc
  pub whole : IsWhole new
  pub outcome : done.outcome ≡ turned.outcome
  pub events : done.events ≡ turned.events
  pub changed : TellsChange done.changed (seen old) turned.after

-- A datacentre with stages z took this turn: its stages, the outcome and the events are the turn's, and it is told whether z changed.
pub record TookTurn (d : ℕ) (z : Datacentre) (turned : Turned) (done : TurnDone) (new : DatacentreState) : Type 0 where
  pub state : new ≡ record { dc = d; stages = Some turned.after }
  pub outcome : done.outcome ≡ turned.outcome
  pub events : done.events ≡ turned.events
  pub changed : TellsChange done.changed z turned.after

-- It failed: nothing is known of its stages from then on.
abbrev pub HasFailed : DatacentreState → Type 0
HasFailed new = new.stages ≡ None

-- The turns that take no memory: those of the token and of the floor, an announcement, a receiver that joins, an upgrade, and each that names
-- a member which is not there or adds one where there is no room.
abbrev pub TakesNoMemory : Datacentre → Step → Type 0
TakesNoMemory z (Client s) = ⊥
TakesNoMemory z (Flush d b) = length z.batchers ≤ b
TakesNoMemory z (Pass d f q) = (length z.filters ≤ f) ⊎ (length z.queues ≤ q)
TakesNoMemory z (Stamp d q) = length z.queues ≤ q
TakesNoMemory z (Token d) = ⊤
TakesNoMemory z (Place d q m) = (length z.queues ≤ q) ⊎ (length z.maintainers ≤ m)
TakesNoMemory z (Gossip d m k) = (length z.maintainers ≤ m) ⊎ (length z.maintainers ≤ k)
TakesNoMemory z (Post d m i) = (length z.maintainers ≤ m) ⊎ (length z.indexers ≤ i)
TakesNoMemory z (Learn d) = ⊥
TakesNoMemory z (Send d k e) = ⊥
TakesNoMemory z (Deliver d e k r) = ⊥
TakesNoMemory z (Lose d e k) = ⊥
TakesNoMemory z (Copy d e k) = ⊥
TakesNoMemory z (Floor d p) = ⊤
TakesNoMemory z (Collect d m) = length z.maintainers ≤ m
TakesNoMemory z (Announce d h t) = ⊤
TakesNoMemory z (Mark d) = ⊥
TakesNoMemory z (AddMaintainer d p) = MEMBERS ≤ length z.maintainers
TakesNoMemory z (AddBatcher d) = MEMBERS ≤ length z.batchers
TakesNoMemory z (AddQueue d) = MEMBERS ≤ length z.queues
TakesNoMemory z (AddSender d) = MEMBERS ≤ z.senders
TakesNoMemory z (AddReceiver d) = ⊤
TakesNoMemory z (Upgrade d) = ⊤

-- It took the turn, or memory was wanted and it has failed.
abbrev pub TakesTurn : {E : Type 0} → ℕ → Datacentre → Turned → Result TurnDone E → DatacentreState → Type 0
TakesTurn d z turned result new = MatchResult result (λ done. TookTurn d z turned done new) (λ _. HasFailed new)

-- what sender k answers, where its message to e is yet to go into the link
abbrev pub send_told : ℕ → Datacentre → ℕ → ℕ → Turned
send_told d z k e = quiet (Sent (names_of (message_of d z k e).records) 0 false) z

-- The packet is sender k's message to e, in the form that the flag of the datacentre asks for, and there is one exactly where the sender is there.
abbrev pub IsPacketOf : ℕ → Datacentre → ℕ → ℕ → Option (List ℕ) → Type 0
IsPacketOf d z k e packet = MatchOption packet (z.senders ≤ k) (λ bytes. (k < z.senders) × SpellsIn (form_of z.upgraded (message_of d z k e)) (length z.table) bytes (message_of d z k e))

-- It took the turn of sender k and made its packet for e, or it has failed.
abbrev pub Sends : {E : Type 0} → ℕ → Datacentre → ℕ → ℕ → Result (TurnDone × Option (List ℕ)) E → DatacentreState → Type 0
Sends d z k e result new = MatchResult result
    (λ sent. TookTurn d z (turn_of d z (Send d k e)) sent.0 new × IsPacketOf d z k e sent.1)
    (λ _. HasFailed new)

-- the steps that `turn` takes: all but those of links, which are calls of their own; with the numbers in their ranges
abbrev pub IsOwnStep : Datacentre → Step → Type 0
IsOwnStep z (Client s) = ⊤
IsOwnStep z (Flush d b) = ⊤
IsOwnStep z (Pass d f q) = ⊤
IsOwnStep z (Stamp d q) = ⊤
IsOwnStep z (Token d) = ⊤
IsOwnStep z (Place d q m) = ⊤
IsOwnStep z (Gossip d m k) = ⊤
IsOwnStep z (Post d m i) = ⊤
IsOwnStep z (Learn d) = ⊤
IsOwnStep z (Send d k e) = ⊥
IsOwnStep z (Deliver d e k r) = ⊥
IsOwnStep z (Lose d e k) = ⊥
IsOwnStep z (Copy d e k) = ⊥
IsOwnStep z (Floor d p) = ⊤
IsOwnStep z (Collect d m) = ⊤
IsOwnStep z (Announce d h t) = h < length z.table
IsOwnStep z (Mark d) = ⊤
IsOwnStep z (AddMaintainer d p) = p < NUMBERS_END
IsOwnStep z (AddBatcher d) = ⊤
IsOwnStep z (AddQueue d) = ⊤
IsOwnStep z (AddSender d) = ⊤
IsOwnStep z (AddReceiver d) = ⊤
IsOwnStep z (Upgrade d) = ⊤
