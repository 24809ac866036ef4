-- How settling ends.
use Rattle.std.specs.Prelude.{◌≡◌, ℕ, ◌+◌, ◌*◌, ◌<◌, ◌≤◌, ◌++◌, List, All, None}
use Rattle.cz_base.specs.declared.limits.TheConstants.{COMMANDS}
use Rattle.abstract_log.specs.declared.command.Workload.{Workload}
use Rattle.abstract_log.specs.declared.script.Script.{Script}
use Rattle.abstract_log.specs.declared.script.Step.{Step}
use Rattle.abstract_log.specs.declared.world.World.{World}
use Rattle.abstract_log.specs.Runs.{CanAllHappen, IsFinished, IsRun, after_all, world_of}
use Rattle.stage_world.specs.Opening.{opening}
use Rattle.stage_world.specs.Stages.{Stages}
use Rattle.stage_world.specs.Whole.{datacentre_at}
use Rattle.abstract_log.specs.Turns.{IsStep}
use Rattle.stage_world.specs.Schedules.{after_steps, events_of}
use Rattle.stage_world.specs.Settling.{is_unfinished, telling_rounds, AreSettlingRounds, IsLoop, IsSettling}

-- no announcement is on
abbrev pub AreQuiet : Workload → Stages → Type 0
AreQuiet load z = (d : ℕ) → d < load.dcs → (datacentre_at z d).announcement ≡ None

-- how many passes of telling there are at most: two for each record that a log may get, and four
abbrev pub most_passes : Workload → ℕ
most_passes load = 2 * (load.dcs * COMMANDS) + 4

-- The rounds of telling end.
pub record EndsTelling (load : Workload) (z : Stages) : Type 0 where
  pub passes : ℕ
  pub turns : List Step
  pub loop : IsLoop load is_unfinished telling_rounds z passes turns
  pub few : passes ≤ most_passes load
  pub steps : All (IsStep load) turns

-- The rounds of settling end: these are their turns.
pub record EndsRounds (load : Workload) (z : Stages) : Type 0 where
  pub turns : List Step
  pub rounds : AreSettlingRounds load z turns
  pub steps : All (IsStep load) turns

-- Settling ends: these are its turns.
pub record EndsSettling (load : Workload) (z : Stages) : Type 0 where
  pub turns : List Step
  pub settling : IsSettling load z turns
  pub steps : All (IsStep load) turns

-- The events of the steps can happen, and leave a finished world.
pub record IsFinishedBy (w : World) (z : Stages) (steps : List Step) : Type 0 where
  pub can : CanAllHappen w (events_of w.workload z steps)
  pub finished : IsFinished (after_all w (events_of w.workload z steps))

-- The steps of a script, and turns by which the stages settle after them, make a run on its workload that leaves a finished world.
pub record HasFinishedRun (script : Script) : Type 0 where
  pub settling : List Step
  pub settles : IsSettling script.workload (after_steps script.workload (opening script) script.steps) settling
  pub run : IsRun script.workload (events_of script.workload (opening script) (script.steps ++ settling))
  pub finished : IsFinished (world_of script.workload (events_of script.workload (opening script) (script.steps ++ settling)))
