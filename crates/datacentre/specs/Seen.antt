-- What contracts see of a datacentre.
use Rattle.std.specs.Prelude.{◌≡◌, ℕ, ◌==◌, Bool, true, if◌then◌else◌, List, [], length, find, replicate, Option, Some, None, All}
use Rattle.cz_base.specs.declared.limits.TheConstants.{SESSIONS}
use Rattle.std.specs.Option.{option_and_then}
use Rattle.abstract_log.specs.declared.world.World.{World}
use Rattle.flstore_rounds.specs.Epochs.{EpochList}
use Rattle.log_gc.specs.Floors.{pin_of}
use Rattle.sender_receiver.specs.Sending.{SenderState}
use Rattle.token_queue.specs.Queues.{TokenState}
use Rattle.log_laws.specs.Lawful.{IsLawful}
use Rattle.stage_world.specs.Stages.{Datacentre, Session}
use Rattle.stage_world.specs.StandsFor.{StandsAt}
use Rattle.datacentre.specs.declared.parts.Parts.{Parts}
use Rattle.stage_turns.specs.Lent.{HaveToken, maintainers_seen, queues_seen, token_seen}

-- its number, and its stages, unless memory was wanted once: then it has failed, and nothing is promised of them
pub record DatacentreState : Type 0 where
  pub dc : ℕ
  pub stages : Option Datacentre

-- the parts as the stage world sees them
abbrev pub seen : Parts → Datacentre
seen p = record {
  first = p.first_maintainers;
  sessions = p.sessions;
  batchers = p.batchers;
  filters = p.filters;
  map = p.map;
  announcement = p.marks;
  queues = queues_seen p.queues;
  token = token_seen p.queues;
  maintainers = maintainers_seen p.maintainers;
  vectors = p.vectors;
  indexers = p.indexers;
  table = p.table.table;
  learnt = p.learnt;
  floor = p.floor.floor;
  collected = p.collected;
  senders = length p.senders;
  receivers = p.receivers;
  upgraded = p.upgraded;
}

abbrev pub state_of : Bool → Parts → DatacentreState
state_of failed p = record { dc = p.dc; stages = if failed then None else Some (seen p) }

-- what session n among these has pinned
abbrev pub pin_in : List Session → ℕ → Option ℕ
pin_in xs n = option_and_then (λ x. x.pin) (find (λ x. x.number == n) xs)

-- a sender once it is upgraded
abbrev pub upgraded : SenderState → SenderState
upgraded s = record s { upgraded = true }

-- a sender of datacentre d, which writes form 2 exactly where d is upgraded
pub record IsSenderOf (d : ℕ) (upgraded : Bool) (s : SenderState) : Type 0 where
  pub dc : s.dc ≡ d
  pub form : s.upgraded ≡ upgraded

-- One queue has the token; table and senders are the datacentre's own; what sessions have pinned, and no more, is held against
-- collection, where there is room for 64 of them.
pub record IsWhole (p : Parts) : Type 0 where
  pub token : HaveToken p.queues (token_seen p.queues)
  pub table : p.table.dc ≡ p.dc
  pub senders : All (IsSenderOf p.dc p.upgraded) p.senders
  pub pins : (n : ℕ) → pin_of p.floor n ≡ pin_in p.sessions n
  pub many : length p.floor.pins ≡ SESSIONS

-- Stages of datacentre d that stand for some log: that of a lawful world.
pub record StandsForALog (d : ℕ) (z : Datacentre) : Type 0 where
  pub world : World
  pub lawful : IsLawful world
  pub stands : StandsAt world d z

-- the token of a datacentre that has stamped nothing, at its first queue
abbrev pub first_token : ℕ → ℕ → EpochList → ℕ → TokenState
first_token d dcs epochs queues = record { dc = d; counts = replicate dcs 0; last = 0; deferred = []; epochs = epochs; at = 0; queues = queues }
