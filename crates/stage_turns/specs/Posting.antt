-- What a maintainer posts to an indexer.
use Rattle.std.specs.Prelude.{◌≡◌, ◌⊎◌, ℕ, ◌<◌, ◌≤◌, ◌&&◌, Bool, if◌then◌else◌, nat_le, nat_lt, All}
use Rattle.cz_base.specs.declared.limits.TheConstants.{MEMBERS}
use Rattle.std.specs.List.{list_any}
use Rattle.causal_deps.specs.declared.record.Record.{Record}
use Rattle.flstore_rounds.specs.Epochs.{IsPrefix, longer, owner}
use Rattle.maintainer.specs.declared.slot.Slot.{Slot}
use Rattle.maintainer.specs.Maintainers.{IsFilled, MaintainerState, mark_of}
use Rattle.tag_indexer.specs.Indexers.{AreBegun, IndexerState}

-- the entry stands at or above low and below top
abbrev pub is_between : ℕ → ℕ → Slot Record → Bool
is_between low top e = nat_le low e.lid && nat_lt e.lid top

-- below which position a maintainer posts, from low on: its mark, but nothing where a position up to it is gone
abbrev pub post_mark : MaintainerState Record → ℕ → ℕ
post_mark x low = if list_any (λ p. nat_le low p && nat_lt p (mark_of x)) x.gone then low else mark_of x

-- The lists are beginnings of one, and no mark is above what the maintainer's adds; by the longer one each entry is of a
-- position of maintainer m, and it has filled all of them below its mark.
pub record MayPost (x : MaintainerState Record) (m : ℕ) (i : IndexerState) : Type 0 where
  pub member : m < MEMBERS
  pub known : IsPrefix i.pair.epochs x.epochs ⊎ IsPrefix x.epochs i.pair.epochs
  pub begun : AreBegun i.pair x.epochs
  pub own : All (λ e. owner (longer i.pair.epochs x.epochs) e.lid ≡ m) x.entries
  pub filled : (p : ℕ) → 1 ≤ p → p < mark_of x → owner (longer i.pair.epochs x.epochs) p ≡ m → IsFilled x p
