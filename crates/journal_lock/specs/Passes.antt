-- What the lock, a pass and a holder are to a contract.
use Rattle.std.specs.Prelude.{ℕ, Bool, List}
use Rattle.atomic_table.specs.Seated.{TableId}
use Rattle.abstract_log.specs.declared.command.Workload.{Workload}
use Rattle.abstract_log.specs.declared.event.Event.{Event}
use Rattle.journal_lock.specs.declared.duty.Duty.{Duty}
use Rattle.journal_lock.specs.declared.duty.Position.{Position}
use Rattle.journal_lock.specs.declared.law.Note.{Note}
use Rattle.journal_lock.specs.declared.law.SessionPin.{SessionPin}

-- which lock it is, what its journal is a run on, and how many positions in a row a maintainer owns
pub record Lock : Type 0 where
  pub table : TableId
  pub workload : Workload
  pub round : ℕ

-- a pass: the beginning of the journal that it has seen, its duties, whether it failed, its notes, the positions that it names, and the pins that it was told
pub record Ticket : Type 0 where
  pub table : TableId
  pub workload : Workload
  pub seen : List Event
  pub duties : List Duty
  pub failed : Bool
  pub notes : List Note
  pub hand : List Position
  pub placed : List Position
  pub pins : List SessionPin

-- a holder: the same, where `seen` is the journal as it was when the turn was taken, with the journal in hand, and for how many more events there is room
pub record Hand : Type 0 where
  pub table : TableId
  pub workload : Workload
  pub seen : List Event
  pub duties : List Duty
  pub failed : Bool
  pub notes : List Note
  pub hand : List Position
  pub placed : List Position
  pub pins : List SessionPin
  pub log : List Event
  pub spare : ℕ
