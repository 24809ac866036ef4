-- The datacentres and links of the code, and the stage world that they show.
use Rattle.std.specs.Prelude.{◌≡◌, ℕ, ◌+◌, ◌<◌, ◌∷◌, Bool, true, false, List, [], length, slice_index_or, slice_set, All, Option, Some}
use Rattle.abstract_log.specs.declared.command.Workload.{Workload}
use Rattle.abstract_log.specs.declared.script.Script.{Script}
use Rattle.abstract_log.specs.declared.script.Step.{Step}
use Rattle.abstract_log.specs.declared.script.Step.TheVariants.{Client, Flush, Pass, Stamp, Token, Place, Gossip, Post, Learn, Send, Deliver, Lose, Copy, Floor, Collect, Announce, Mark, AddMaintainer, AddBatcher, AddQueue, AddSender, AddReceiver, Upgrade}
use Rattle.abstract_log.specs.declared.world.World.{World}
use Rattle.log_laws.specs.Lawful.{IsLawful}
use Rattle.stage_world.specs.Stages.{Datacentre, Stages}
use Rattle.stage_world.specs.Opening.{one_of_each, opening_at}
use Rattle.stage_world.specs.LinkTurns.{Moved}
use Rattle.abstract_log.specs.Turns.{IsStep}
use Rattle.stage_world.specs.Schedules.{turn_of}
use Rattle.stage_world.specs.Idle.{IsIdleTurn, TellsChange}
use Rattle.stage_world.specs.Whole.{StandsFor}
use Rattle.stage_turns.specs.declared.done.TurnDone.{TurnDone}
use Rattle.stage_world.specs.Turns.{Turned}
use Rattle.datacentre.specs.Seen.{DatacentreState, StandsForALog}
use Rattle.stage_turns.specs.Told.{IsToldBy}
use Rattle.world.specs.declared.network.Network.{Network}
use Rattle.world.specs.Links.{AreLinked}
use Rattle.datacentre.specs.Turning.{IsOwnStep, IsPacketOf}

-- datacentres from number n on, of which none has failed
abbrev pub states_from : ℕ → List Datacentre → List DatacentreState
states_from n [] = []
states_from n (z ∷ zs) = record { dc = n; stages = Some z } ∷ states_from (n + 1) zs

-- datacentre d as the script opens it
abbrev pub opened_at : Script → ℕ → Datacentre
opened_at script d = opening_at script.round (slice_index_or script.sizes d one_of_each) script.workload d

-- The datacentres are those of the stage world, and each link has the packets that spell its messages.
pub record Shows (dcs : ℕ) (z : Stages) (network : Network) : Type 0 where
  pub datacentres : network.datacentres ≡ states_from 0 z.datacentres
  pub links : AreLinked dcs network.links z.links
  pub count : length z.datacentres ≡ dcs
  pub rows : length z.links ≡ dcs
  pub columns : All (λ row. length row ≡ dcs) z.links

-- The network is the one that a turn leaves, and its outcome and its events are answered.
pub record HasMoved (dcs : ℕ) (moved : Moved) (network : Network) (done : TurnDone) : Type 0 where
  pub shown : Shows dcs moved.after network
  pub outcome : done.outcome ≡ moved.outcome
  pub events : done.events ≡ moved.events

-- It is told whether a step is idle.
pub record TellsIdle (load : Workload) (z : Stages) (step : Step) (changed : Bool) : Type 0 where
  pub idle : changed ≡ false → IsIdleTurn load z step
  pub other : changed ≡ true → IsIdleTurn load z step → ⊥

-- a turn that uses a link
abbrev pub uses_link : Step → Bool
uses_link (Client s) = false
uses_link (Flush d b) = false
uses_link (Pass d f q) = false
uses_link (Stamp d q) = false
uses_link (Token d) = false
uses_link (Place d q m) = false
uses_link (Gossip d m k) = false
uses_link (Post d m i) = false
uses_link (Learn d) = false
uses_link (Send d k e) = true
uses_link (Deliver d e k r) = true
uses_link (Lose d e k) = true
uses_link (Copy d e k) = true
uses_link (Floor d p) = false
uses_link (Collect d m) = false
uses_link (Announce d h t) = false
uses_link (Mark d) = false
uses_link (AddMaintainer d p) = false
uses_link (AddBatcher d) = false
uses_link (AddQueue d) = false
uses_link (AddSender d) = false
uses_link (AddReceiver d) = false
uses_link (Upgrade d) = false

-- Of these datacentres, number d has the stages z.
pub record IsSeenAt (d : ℕ) (z : Datacentre) (datacentres : List DatacentreState) : Type 0 where
  pub there : d < length datacentres
  pub is : (other : DatacentreState) → slice_index_or datacentres d other ≡ record { dc = d; stages = Some z }

-- Datacentre d may take the step.
pub record MayTurnAt (d : ℕ) (step : Step) (datacentres : List DatacentreState) : Type 0 where
  pub stages : Datacentre
  pub seen : IsSeenAt d stages datacentres
  pub log : StandsForALog d stages
  pub own : IsOwnStep stages step

-- Datacentre d may send to e.
pub record MaySendAt (d e : ℕ) (datacentres : List DatacentreState) : Type 0 where
  pub stages : Datacentre
  pub seen : IsSeenAt d stages datacentres
  pub log : StandsForALog d stages
  pub to : e < length stages.table

-- A receiver of datacentre d may get the packet from the link from another.
pub record MayReceiveAt (d from : ℕ) (packet : List ℕ) (datacentres : List DatacentreState) : Type 0 where
  pub stages : Datacentre
  pub seen : IsSeenAt d stages datacentres
  pub log : StandsForALog d stages
  pub told : IsToldBy (length stages.table) from packet

-- Datacentre d with stages z took a turn, and the others did nothing.
pub record HasTurned (d : ℕ) (z : Datacentre) (turned : Turned) (old new : List DatacentreState) (done : TurnDone) : Type 0 where
  pub datacentres : new ≡ slice_set old d (record { dc = d; stages = Some turned.after })
  pub outcome : done.outcome ≡ turned.outcome
  pub events : done.events ≡ turned.events
  pub changed : TellsChange done.changed z turned.after

-- Sender k of datacentre d answered, and made a packet for e if it is there; no stage changed.
pub record HasSent (d k e : ℕ) (z : Datacentre) (old new : List DatacentreState) (sent : TurnDone × Option (List ℕ)) : Type 0 where
  pub datacentres : new ≡ old
  pub outcome : sent.0.outcome ≡ (turn_of d z (Send d k e)).outcome
  pub events : sent.0.events ≡ []
  pub changed : sent.0.changed ≡ false
  pub packet : IsPacketOf d z k e sent.1

-- The network shows stages that stand for a lawful world, and may take this step.
pub record MayStep (load : Workload) (step : Step) (z : Stages) (network : Network) : Type 0 where
  pub world : World
  pub same : world.workload ≡ load
  pub lawful : IsLawful world
  pub stands : StandsFor world z
  pub shown : Shows load.dcs z network
  pub fits : IsStep load step
