-- What the stages of a datacentre show to a session.
use Rattle.std.specs.Prelude.{◌≡◌, ◌⊎◌, ℕ, ◌^◌, ◌<◌, ◌≤◌, List, length, map, flat_map, Some, None, IsSome, Contains}
use Rattle.cz_base.specs.declared.limits.TheConstants.{NUMBERS_END}
use Rattle.causal_deps.specs.declared.record.Record.{Record}
use Rattle.causal_deps.specs.Logs.{record_at}
use Rattle.causal_deps.specs.declared.answers.Newest.TheVariants.{Found}
use Rattle.abstract_log.specs.Answers.{newest}
use Rattle.abstract_log.specs.Updates.{told_place}
use Rattle.flstore_rounds.specs.Heads.{Pair, head}
use Rattle.hyksos.specs.Shelves.{ShelfState, covered_for}
use Rattle.log_gc.specs.Floors.{Floored, pin_of}
use Rattle.maintainer.specs.Maintainers.{MaintainerState}
use Rattle.tag_indexer.specs.Indexers.{IndexerState}
use Rattle.tag_indexer.specs.Indexed.{IsIndexed}
use Rattle.stage_world.specs.Stages.{indexer_at}
use Rattle.stage_world.specs.MoreTurns.{record_kept}

-- the collected positions
abbrev pub gone_in : List (MaintainerState Record) → List ℕ
gone_in ms = flat_map (λ m. m.gone) ms

-- what a session reads through: the vector that serves it, the maintainers, the indexers, and the collection floor with the pins
abbrev pub shelf_of : Pair → List (MaintainerState Record) → List IndexerState → Floored → ShelfState
shelf_of v ms is g = record { head = head v; gone = gone_in ms; floor = g.floor; covered = map (λ i. head i.pair) is; pins = g.pins }

-- Indexer i of n has what the log has as far as it covers it, which is no further than the log.
pub record IsIndexerOf (log : List Record) (n i : ℕ) (x : IndexerState) : Type 0 where
  pub number : x.number ≡ i
  pub members : x.indexers ≡ n
  pub indexed : IsIndexed log x
  pub within : head x.pair ≤ length log

-- What stands at the maintainers is the log's or gone: all of it up to the head, and each put that is the last update of its key at or
-- above the floor, where no pin is below it.
pub record ShowsLog (v : Pair) (ms : List (MaintainerState Record)) (is : List IndexerState) (g : Floored) (log : List Record) : Type 0 where
  pub within : head v ≤ length log
  pub indexers : (i : ℕ) → i < length is → IsIndexerOf log (length is) i (indexer_at is i)
  pub kept : (p : ℕ) (r : Record) → record_kept ms p ≡ Some r → record_at log p ≡ Some r
  pub filled : (p : ℕ) → 1 ≤ p → p ≤ head v → Contains (gone_in ms) p ⊎ IsSome (record_kept ms p)
  pub apart : (p : ℕ) → Contains (gone_in ms) p → record_kept ms p ≡ None
  pub small : (p : ℕ) → Contains (gone_in ms) p → p < NUMBERS_END
  pub newest : (key : List ℕ) (s p : ℕ) → g.floor ≤ s → s ≤ covered_for (shelf_of v ms is g) key → told_place log (newest log key s) ≡ Found p → IsSome (record_kept ms p)
  pub pins : (n s : ℕ) → pin_of g n ≡ Some s → g.floor ≤ s
