-- What a local round leaves of a datacentre, and how the rounds of answering end.
use Rattle.std.specs.Prelude.{◌≡◌, ◌≢◌, ℕ, ◌+◌, ◌-◌, ◌≤◌, true, false, List, [], length, map, drop, Some, slice_get, slice_index, sum_by, All}
use Rattle.causal_deps.specs.Counts.{entry_of}
use Rattle.abstract_log.specs.declared.command.Command.{Command}
use Rattle.abstract_log.specs.declared.command.Workload.{Workload}
use Rattle.abstract_log.specs.declared.script.Step.{Step}
use Rattle.abstract_log.specs.declared.world.World.{World}
use Rattle.abstract_log.specs.Commands.{is_write}
use Rattle.flstore_rounds.specs.Heads.{head}
use Rattle.log_laws.specs.Lawful.{IsLawful}
use Rattle.token_queue.specs.Items.{is_ready}
use Rattle.stage_world.specs.Stages.{Datacentre, Session, Stages, sizes_of, IsFilledIn}
use Rattle.stage_world.specs.StandsFor.{keys_of, numbers_of}
use Rattle.stage_world.specs.Whole.{StandsFor, datacentre_at}
use Rattle.abstract_log.specs.Turns.{IsStep}
use Rattle.stage_world.specs.Schedules.{after_steps}
use Rattle.stage_world.specs.Settling.{local_round, is_answering, answering_rounds, IsLoop}

-- Nothing is on its way to the log, but for records that a filter holds, and items that wait for what they depend on: none of
-- these may be stamped.
pub record IsDrained (z : Datacentre) : Type 0 where
  pub batchers : All (λ b. b ≡ []) z.batchers
  pub filters : All (λ f. f.out ≡ []) z.filters
  pub queues : All (λ q. q.items ≡ []) z.queues
  pub deferred : All (λ item. is_ready z.token.counts item ≡ false) z.token.deferred

-- The command that is open at a session, if there is one, is no write.
abbrev pub HasNoOpenWrite : Session → Type 0
HasNoOpenWrite x = (c : Command) → x.standing.begun ≡ true → slice_get x.commands x.standing.answered ≡ Some c → is_write c ≡ false

-- Every outbox is empty, and each position of the log is filled by a maintainer; all have the token's epochs.
pub record IsAllPlaced (z : Datacentre) : Type 0 where
  pub queues : All (λ q. q.epochs ≡ z.token.epochs) z.queues
  pub outboxes : All (λ q. All (λ es. es ≡ []) q.outboxes) z.queues
  pub maintainers : All (λ m. m.epochs ≡ z.token.epochs) z.maintainers
  pub filled : (p : ℕ) → 1 ≤ p → p ≤ z.token.last → IsFilledIn z.maintainers p

-- Every vector's head and what every indexer covers is the length of the log; all of it is learnt, so the datacentre's own row has
-- the counts of the whole log.
pub record IsAllTold (d : ℕ) (z : Datacentre) : Type 0 where
  pub heads : All (λ v. head v ≡ z.token.last) z.vectors
  pub covered : All (λ i. head i.pair ≡ z.token.last) z.indexers
  pub learnt : z.learnt ≡ z.token.last
  pub own : (h : ℕ) → entry_of z.table d h ≡ slice_index z.token.counts h

-- Datacentre d as a local round leaves it.
pub record IsRounded (d : ℕ) (z : Datacentre) : Type 0 where
  pub drained : IsDrained z
  pub writes : All HasNoOpenWrite z.sessions
  pub placed : IsAllPlaced z
  pub told : IsAllTold d z

-- What the turns of a local round leave as it was: members, sessions and their commands, epochs, the champions and the announcement.
pub record HasSameMembers (z new : Datacentre) : Type 0 where
  pub first : new.first ≡ z.first
  pub sizes : sizes_of new ≡ sizes_of z
  pub sessions : numbers_of new.sessions ≡ numbers_of z.sessions
  pub commands : map (λ (x : Session). x.commands) new.sessions ≡ map (λ (x : Session). x.commands) z.sessions
  pub epochs : new.token.epochs ≡ z.token.epochs
  pub shares : new.map ≡ z.map
  pub announcement : new.announcement ≡ z.announcement

-- Nothing changed but datacentre d, and that has the same members.
pub record IsChangedAt (d : ℕ) (z new : Stages) : Type 0 where
  pub datacentres : length new.datacentres ≡ length z.datacentres
  pub others : (e : ℕ) → e ≢ d → datacentre_at new e ≡ datacentre_at z e
  pub links : new.links ≡ z.links
  pub members : HasSameMembers (datacentre_at z d) (datacentre_at new d)

-- A local round of datacentre d, from stages that stand for a lawful world: its turns are steps that a script may have, and they
-- change d alone and leave it rounded.
pub record IsSettledByRound (load : Workload) (d : ℕ) (z : Stages) : Type 0 where
  pub steps : All (IsStep load) (local_round d (datacentre_at z d))
  pub changed : IsChangedAt d z (after_steps load z (local_round d (datacentre_at z d)))
  pub rounded : IsRounded d (datacentre_at (after_steps load z (local_round d (datacentre_at z d))) d)

-- The stages stand for some world of the workload in which the laws of runs hold.
pub record IsStanding (load : Workload) (z : Stages) : Type 0 where
  pub world : World
  pub workload : world.workload ≡ load
  pub lawful : IsLawful world
  pub stands : StandsFor world z

-- what is left of a command: to answer it, and to find each of its keys
abbrev pub work_of : Command → ℕ
work_of c = length (keys_of c) + 1

-- what is left to a session: its commands that are not answered, but for the keys that it has found
abbrev pub left_to : Session → ℕ
left_to x = sum_by work_of (drop x.standing.answered x.commands) - length x.found

abbrev pub work_at : Datacentre → ℕ
work_at z = sum_by left_to z.sessions

abbrev pub left_in : Stages → ℕ
left_in z = sum_by work_at z.datacentres

-- The rounds of answering end, after at most one pass more than there is work left; they change no members and no link.
pub record EndsAnswering (load : Workload) (z : Stages) : Type 0 where
  pub passes : ℕ
  pub turns : List Step
  pub loop : IsLoop load is_answering answering_rounds z passes turns
  pub few : passes ≤ left_in z + 1
  pub steps : All (IsStep load) turns
  pub datacentres : length (after_steps load z turns).datacentres ≡ length z.datacentres
  pub links : (after_steps load z turns).links ≡ z.links
  pub members : (d : ℕ) → HasSameMembers (datacentre_at z d) (datacentre_at (after_steps load z turns) d)
