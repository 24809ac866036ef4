-- Idle turns: those after which all is as it was, but for epoch lists.
use Rattle.std.specs.Prelude.{◌≡◌, ◌≢◌, Bool, true, false, map}
use Rattle.causal_deps.specs.declared.record.Record.{Record}
use Rattle.flstore_rounds.specs.Heads.{Pair}
use Rattle.maintainer.specs.Maintainers.{MaintainerState}
use Rattle.token_queue.specs.Queues.{QueueState}
use Rattle.abstract_log.specs.declared.command.Workload.{Workload}
use Rattle.abstract_log.specs.declared.script.Step.{Step}
use Rattle.tag_indexer.specs.Indexers.{IndexerState}
use Rattle.stage_world.specs.Stages.{Datacentre, Stages, no_epochs}
use Rattle.stage_world.specs.Schedules.{step_of}

-- a queue, a maintainer, a vector and an indexer, whatever epoch list it has
abbrev pub queue_apart : QueueState → QueueState
queue_apart q = record q { epochs = no_epochs }

abbrev pub maintainer_apart : MaintainerState Record → MaintainerState Record
maintainer_apart m = record m { epochs = no_epochs }

abbrev pub pair_apart : Pair → Pair
pair_apart v = record v { epochs = no_epochs }

abbrev pub indexer_apart : IndexerState → IndexerState
indexer_apart i = record i { pair = pair_apart i.pair }

-- a datacentre, whatever epoch lists its queues, maintainers, vectors and indexers have; that of the token counts
abbrev pub apart_from_epochs : Datacentre → Datacentre
apart_from_epochs z = record z {
  queues = map queue_apart z.queues;
  maintainers = map maintainer_apart z.maintainers;
  vectors = map pair_apart z.vectors;
  indexers = map indexer_apart z.indexers;
}

-- It says whether the second is another than the first.
pub record TellsApart {X : Type 0} (changed : Bool) (old new : X) : Type 0 where
  pub same : changed ≡ false → old ≡ new
  pub other : changed ≡ true → old ≢ new

-- It says whether the datacentre is another one, epoch lists apart.
abbrev pub TellsChange : Bool → Datacentre → Datacentre → Type 0
TellsChange changed old new = TellsApart changed (apart_from_epochs old) (apart_from_epochs new)

-- Idle turn: it leaves each link as it was, and each datacentre but for epoch lists. A send into a full link of messages that equal the
-- new one is idle, and so is such a copy.
pub record IsIdleTurn (load : Workload) (z : Stages) (step : Step) : Type 0 where
  pub links : (step_of load z step).after.links ≡ z.links
  pub datacentres : map apart_from_epochs (step_of load z step).after.datacentres ≡ map apart_from_epochs z.datacentres
