-- The turns of settling that the stages take.
use Rattle.std.specs.Prelude.{◌≡◌, ℕ, ◌+◌, ◌≤◌, ◌%◌, ◌==◌, if◌then◌else◌, Bool, false, List, [], ◌∷◌, ◌++◌, length, flat_map, Some, All}
use Rattle.cz_base.specs.declared.limits.TheConstants.{DATACENTRES}
use Rattle.abstract_log.specs.declared.command.Workload.{Workload}
use Rattle.abstract_log.specs.declared.script.Script.{Script}
use Rattle.abstract_log.specs.declared.script.Step.{Step}
use Rattle.abstract_log.specs.declared.script.Step.TheVariants.{Stamp, Token}
use Rattle.abstract_log.specs.declared.world.World.{World}
use Rattle.log_laws.specs.Lawful.{IsLawful}
use Rattle.stage_world.specs.Stages.{Datacentre, Stages}
use Rattle.stage_world.specs.Opening.{numbered}
use Rattle.stage_world.specs.Settling.{Errand, IsLoop, below, is_answering}
use Rattle.stage_world.specs.Whole.{StandsFor}
use Rattle.settling_laws.specs.Ending.{AreQuiet}
use Rattle.datacentre.specs.Seen.{DatacentreState, StandsForALog}
use Rattle.world.specs.Showing.{states_from}
use Rattle.world.specs.Taking.{HasTaken, StagesState, TakenTurn, settled, stages_after}

-- The stages went on from those after these turns: they took more turns of settling, which are such turns.
pub record HasPlayed (such : Workload → Stages → List Step → Type 0) (script : Script) (ts : List TakenTurn) (new : StagesState) : Type 0 where
  pub steps : List Step
  pub are : such script.workload (stages_after script ts) steps
  pub taken : HasTaken script (ts ++ settled steps) new

-- whatever turns were taken, such turns of settling were taken after them
abbrev pub Plays : (Workload → Stages → List Step → Type 0) → StagesState → StagesState → Type 0
Plays such old new = (script : Script) (ts : List TakenTurn) → HasTaken script ts old → HasPlayed such script ts new

-- a loop of so many passes
pub record HasLooped (goes_on : Stages → Bool) (pass : Workload → Stages → List Step) (load : Workload) (z : Stages) (steps : List Step) : Type 0 where
  pub passes : ℕ
  pub loop : IsLoop load goes_on pass z passes steps

-- The stages of this datacentre are z, which stand for a log.
pub record IsKnown (d : ℕ) (z : Datacentre) (state : DatacentreState) : Type 0 where
  pub is : state ≡ record { dc = d; stages = Some z }
  pub log : StandsForALog d z

-- So it is with all datacentres.
pub record AreKnown (z : Stages) (datacentres : List DatacentreState) : Type 0 where
  pub world : World
  pub lawful : IsLawful world
  pub stands : StandsFor world z
  pub shown : datacentres ≡ states_from 0 z.datacentres
  pub few : length z.datacentres ≤ DATACENTRES

-- no datacentre has an announcement on
abbrev pub AreCalm : Workload → List DatacentreState → Type 0
AreCalm load datacentres = (z : Stages) → AreKnown z datacentres → AreQuiet load z

-- every command is answered
abbrev pub AreAnswered : List DatacentreState → Type 0
AreAnswered datacentres = (z : Stages) → AreKnown z datacentres → is_answering z ≡ false

-- the first turns of a ring of so many queues, from its holder on
abbrev pub ring_from : ℕ → ℕ → ℕ → ℕ → List Step
ring_from d holder queues n = flat_map (λ i. Stamp d ((holder + i) % queues) ∷ Token d ∷ []) (below n)

-- what each sender of d has to do for e, and for all
abbrev pub errands_between : ℕ → ℕ → ℕ → List Errand
errands_between d e senders = if d == e then [] else numbered (λ k. record { from = d; to = e; sender = k }) senders

abbrev pub errands_from : ℕ → ℕ → ℕ → List Errand
errands_from d dcs senders = flat_map (λ e. errands_between d e senders) (below dcs)
