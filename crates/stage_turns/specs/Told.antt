-- What a sender tells, and what a packet of another datacentre is.
use Rattle.std.specs.Prelude.{◌≡◌, ℕ, ◌<◌, ◌≤◌, ◌^◌, if◌then◌else◌, nat_lt, List, length, Option, Some, None, All}
use Rattle.cz_base.specs.declared.limits.TheConstants.{NUMBERS_END}
use Rattle.causal_deps.specs.Counts.{entry_of}
use Rattle.causal_deps.specs.declared.record.Record.{Record}
use Rattle.maintainer.specs.Maintainers.{MaintainerState}
use Rattle.maintainer.specs.declared.slot.Slot.{Slot}
use Rattle.record_codec.specs.declared.message.Message.{Message}
use Rattle.record_codec.specs.Wire.{SpellsMessage}
use Rattle.sender_receiver.specs.Sending.{AreTellable, message_to}
use Rattle.sender_receiver.specs.Stocks.{records_in}
use Rattle.stage_world.specs.Stages.{filled}
use Rattle.stage_world.specs.MoreTurns.{stock_of}

-- The maintainers may be told from: positions count from 1, and none is filled twice.
pub record AreApart (ms : List (MaintainerState Record)) : Type 0 where
  pub first : All (λ m. All (λ e. 1 ≤ e.lid) m.entries) ms
  pub once : (p : ℕ) → filled p ms ≤ 1

-- One of so many senders at d may look at what it could tell e: both are datacentres of the table.
pub record MayLook (d e senders : ℕ) (ms : List (MaintainerState Record)) (table : List (List ℕ)) : Type 0 where
  pub from : d < length table
  pub to : e < length table
  pub some : 1 ≤ senders
  pub apart : AreApart ms

-- Sender k of them may tell it: the table's counts are in their range, and what it has of its own has a spelling.
pub record MayTell (d e k senders : ℕ) (ms : List (MaintainerState Record)) (table : List (List ℕ)) : Type 0 where
  pub look : MayLook d e senders ms table
  pub counts : (i h : ℕ) → entry_of table i h < NUMBERS_END
  pub own : AreTellable (length table) d (records_in (stock_of ms k senders))

-- the message of sender k of so many at d to e
abbrev pub told_message : (d e k senders : ℕ) → List (MaintainerState Record) → List (List ℕ) → Message
told_message d e k senders ms table = message_to d e table (records_in (stock_of ms k senders))

-- the one at the lesser position
abbrev pub nearer_of : Option (Slot Record) → Option (Slot Record) → Option (Slot Record)
nearer_of None b = b
nearer_of (Some a) None = Some a
nearer_of (Some a) (Some b) = if nat_lt b.lid a.lid then Some b else Some a

-- The bytes spell a message of that datacentre, between so many.
pub record IsToldBy (dcs from : ℕ) (bytes : List ℕ) : Type 0 where
  pub message : Message
  pub spelled : SpellsMessage dcs bytes message
  pub sender : message.from ≡ from
