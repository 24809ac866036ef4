-- What replaying a script gives.
use Rattle.std.specs.Prelude.{◌≡◌, List, ◌++◌}
use Rattle.abstract_log.specs.declared.script.Script.{Script}
use Rattle.abstract_log.specs.declared.script.Step.{Step}
use Rattle.abstract_log.specs.Left.{left_of}
use Rattle.abstract_log.specs.Runs.{IsRun, IsFinished, world_of}
use Rattle.stage_world.specs.Opening.{opening}
use Rattle.stage_world.specs.Schedules.{after_steps}
use Rattle.stage_world.specs.Settling.{IsSettling}
use Rattle.world.specs.declared.stages.Played.{Played}
use Rattle.world.specs.Taking.{AreLines, TakenTurn, events_after, settled, taken_of}

-- The turns of a script: its own steps, and then those of settling.
abbrev pub turns_of : Script → List Step → List TakenTurn
turns_of script settling = taken_of script.steps ++ settled settling

-- The run is one on the script's workload. Its turns are the script's steps, and then exactly the turns by which the stages settle from
-- there on, marked as such; the lines are those of all turns but the idle ones of settling. The run is finished,
-- and what it leaves is told.
pub record IsReplayed (script : Script) (played : Played) : Type 0 where
  pub settling : List Step
  pub settles : IsSettling script.workload (after_steps script.workload (opening script) script.steps) settling
  pub workload : played.run.workload ≡ script.workload
  pub events : played.run.events ≡ events_after script (turns_of script settling)
  pub lines : AreLines script.workload (opening script) (turns_of script settling) played.stages
  pub is_run : IsRun script.workload played.run.events
  pub finished : IsFinished (world_of script.workload played.run.events)
  pub left : played.left ≡ left_of (world_of script.workload played.run.events)
