-- All laws that hold of the world that a run leaves, where the workload is within the limits.
use Rattle.std.specs.Prelude.{◌≡◌, ◌≢◌, ℕ, ◌+◌, ◌<◌, ◌≤◌, true, List, length, Some, All, Contains, slice_get}
use Rattle.cz_base.specs.declared.limits.TheConstants.{COMMANDS}
use Rattle.causal_deps.specs.declared.record.Record.{Record}
use Rattle.causal_deps.specs.Counts.{AreCovered, IsSquare, entry_of}
use Rattle.causal_deps.specs.Logs.{HasName, IsCausal, count_of, record_at}
use Rattle.abstract_log.specs.declared.command.Command.{Command}
use Rattle.abstract_log.specs.declared.command.Command.TheVariants.{Read}
use Rattle.abstract_log.specs.declared.command.Workload.{Workload}
use Rattle.abstract_log.specs.declared.world.World.{World}
use Rattle.abstract_log.specs.Worlds.{log_of, table_of, gone_of, pending_of, standing_of, plan_of}
use Rattle.abstract_log.specs.Commands.{is_write}
use Rattle.abstract_log.specs.Shapes.{IsShaped}
use Rattle.abstract_log.specs.Fits.{FitsLimits}
use Rattle.log_laws.specs.Laws.{HasOneRecordForEachName, IsGoneHeldByAll}
use Rattle.log_laws.specs.Records.{IsValid, IsWritten}
use Rattle.log_laws.specs.Writes.{writes_at, writes_of, answered_at}

-- How far session s is: within its plan, and no further than the log of its home.
pub record IsOnItsWay (w : World) (s : ℕ) : Type 0 where
  pub answered : (standing_of w s).answered ≤ length (plan_of w.workload s).commands
  pub next : (standing_of w s).begun ≡ true → (standing_of w s).answered < length (plan_of w.workload s).commands
  pub seen : AreCovered (standing_of w s).past (count_of (log_of w (plan_of w.workload s).home))
  pub floor : (standing_of w s).floor ≤ length (log_of w (plan_of w.workload s).home)

-- every table has a row of entries for each datacentre
abbrev pub AreTablesSquare : World → Type 0
AreTablesSquare w = (d : ℕ) → d < w.workload.dcs → IsSquare w.workload.dcs (table_of w d)

-- every record was written by a command of the workload
abbrev pub AreAllWritten : World → Type 0
AreAllWritten w = (d : ℕ) → All (IsWritten w.workload) (log_of w d)

-- each host has as many records as writes that are answered there
abbrev pub AreWritesAnswered : World → Type 0
AreWritesAnswered w = (h : ℕ) → count_of (log_of w h) h ≡ answered_at w h

-- every record was written by a command that is answered, so an open write has no record yet
abbrev pub AreCommandsAnswered : World → Type 0
AreCommandsAnswered w = (d : ℕ) → All (λ r. r.index ≤ (standing_of w r.session).answered) (log_of w d)

-- a command writes one record: two places of a log with the same session and index are one
abbrev pub IsOneForEachCommand : World → Type 0
IsOneForEachCommand w = (d j k : ℕ) (q r : Record) → slice_get (log_of w d) j ≡ Some q → slice_get (log_of w d) k ≡ Some r → q.session ≡ r.session → q.index ≡ r.index → j ≡ k

-- the log has a record of command k of session s, where commands count from 1
pub record HasRecordOf (xs : List Record) (s k : ℕ) : Type 0 where
  pub rec : Record
  pub there : Contains xs rec
  pub session : rec.session ≡ s
  pub index : rec.index ≡ k

-- every write that is answered has its record in the log of its home
abbrev pub HasRecordsOfAnswered : World → Type 0
HasRecordsOfAnswered w = (s k : ℕ) (c : Command) → k < (standing_of w s).answered → slice_get (plan_of w.workload s).commands k ≡ Some c → is_write c ≡ true
    → HasRecordOf (log_of w (plan_of w.workload s).home) s (k + 1)

-- Each log has a record of each write of the workload, and as many records as there are writes.
pub record AreLogsWhole (load : Workload) (w : World) : Type 0 where
  pub records : (d s k : ℕ) (c : Command) → d < load.dcs → slice_get (plan_of load s).commands k ≡ Some c → is_write c ≡ true → HasRecordOf (log_of w d) s (k + 1)
  pub each : (d h : ℕ) → d < load.dcs → count_of (log_of w d) h ≡ writes_at load.sessions h
  pub all : (d : ℕ) → d < load.dcs → length (log_of w d) ≡ writes_of load.sessions

-- each collected position is one of the log
abbrev pub IsGoneOfLog : World → Type 0
IsGoneOfLog w = (d p : ℕ) → Contains (gone_of w d) p → (r : Record) × (record_at (log_of w d) p ≡ Some r)

-- A name that waits at d: d lacks it, and it is of another host, which has it.
pub record IsAwaited (w : World) (d h t : ℕ) : Type 0 where
  pub host : h < w.workload.dcs
  pub elsewhere : h ≢ d
  pub held : HasName (log_of w h) h t
  pub unknown : count_of (log_of w d) h < t

-- What holds of the world that a run leaves, where the workload is within the limits.
pub record IsLawful (w : World) : Type 0 where
  pub limits : FitsLimits w.workload
  pub shape : IsShaped w
  pub causal : (d : ℕ) → IsCausal (log_of w d)
  pub one_record : HasOneRecordForEachName w
  pub valid : (d : ℕ) → All (IsValid w.workload.dcs) (log_of w d)
  pub written : AreAllWritten w
  pub done : AreCommandsAnswered w
  pub present : HasRecordsOfAnswered w
  pub once : IsOneForEachCommand w
  pub answered : AreWritesAnswered w
  pub numbers : (d h : ℕ) → count_of (log_of w d) h ≤ writes_at w.workload.sessions h
  pub few : (d : ℕ) → length (log_of w d) ≤ COMMANDS
  pub tables : (g k h : ℕ) → entry_of (table_of w g) k h ≤ entry_of (table_of w k) k h
  pub own_rows : (k h : ℕ) → entry_of (table_of w k) k h ≤ count_of (log_of w k) h
  pub square : AreTablesSquare w
  pub entries : (g k h : ℕ) → entry_of (table_of w g) k h ≤ COMMANDS
  pub gone : IsGoneHeldByAll w
  pub positions : IsGoneOfLog w
  pub awaited : (d h t : ℕ) → Contains (pending_of w d) (h, t) → IsAwaited w d h t
  pub sessions : (s : ℕ) → IsOnItsWay w s
  pub reads : (s k p : ℕ) → slice_get (plan_of w.workload s).commands k ≡ Some (Read p) → 1 ≤ p
