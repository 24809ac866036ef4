-- What holds of every world that a run leaves.
use Rattle.std.specs.Prelude.{◌≡◌, ℕ, ◌<◌, ◌≤◌, Some, slice_get, Contains}
use Rattle.causal_deps.specs.declared.record.Record.{Record}
use Rattle.causal_deps.specs.Counts.{entry_of}
use Rattle.causal_deps.specs.Logs.{HasName, IsCausal, count_of, record_at}
use Rattle.abstract_log.specs.declared.world.World.{World}
use Rattle.abstract_log.specs.Worlds.{log_of, table_of, gone_of, pending_of, record_of}

-- every log is in causal order
abbrev pub EachLogIsCausal : World → Type 0
EachLogIsCausal w = (d : ℕ) → IsCausal (log_of w d)

-- a name is the same record in every log: the one that its host has
abbrev pub HasOneRecordForEachName : World → Type 0
HasOneRecordForEachName w = (d k : ℕ) (r : Record) → slice_get (log_of w d) k ≡ Some r → record_of w r.host r.toid ≡ Some r

-- Awareness tables: no table knows more of a datacentre than that one itself, which knows no more than its log has.
pub record AreTablesSound (w : World) : Type 0 where
  pub by_owner : (d k h : ℕ) → entry_of (table_of w d) k h ≤ entry_of (table_of w k) k h
  pub by_log : (k h : ℕ) → entry_of (table_of w k) k h ≤ count_of (log_of w k) h

-- the record at a collected position is in every log
abbrev pub IsGoneHeldByAll : World → Type 0
IsGoneHeldByAll w = (d p e : ℕ) → Contains (gone_of w d) p → e < w.workload.dcs
    → (r : Record) × (record_at (log_of w d) p ≡ Some r) × Contains (log_of w e) r

-- a name that waits at d is in its host's log, and not in d's
pub record ArePendingSound (w : World) : Type 0 where
  pub held : (d h t : ℕ) → Contains (pending_of w d) (h, t) → HasName (log_of w h) h t
  pub unknown : (d h t : ℕ) → Contains (pending_of w d) (h, t) → count_of (log_of w d) h < t

-- all of these
pub record IsOrderly (w : World) : Type 0 where
  pub causal : EachLogIsCausal w
  pub one_record : HasOneRecordForEachName w
  pub tables : AreTablesSound w
  pub gone : IsGoneHeldByAll w
