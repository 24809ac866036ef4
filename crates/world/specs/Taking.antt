-- The turns that all stages have taken since a script opened them.
use Rattle.std.specs.Prelude.{◌≡◌, ◌⊎◌, ◌||◌, Bool, true, false, not, if◌then◌else◌, List, [], ◌∷◌, map, All}
use Rattle.abstract_log.specs.declared.command.Workload.{Workload}
use Rattle.abstract_log.specs.declared.event.Event.{Event}
use Rattle.abstract_log.specs.declared.script.Outcome.{Outcome}
use Rattle.abstract_log.specs.declared.script.Script.{Script}
use Rattle.abstract_log.specs.declared.script.StageLine.{StageLine}
use Rattle.abstract_log.specs.declared.script.Step.{Step}
use Rattle.abstract_log.specs.Fits.{FitsScript}
use Rattle.abstract_log.specs.Left.{left_of}
use Rattle.abstract_log.specs.Runs.{IsRun, world_of}
use Rattle.stage_world.specs.Stages.{Stages}
use Rattle.stage_world.specs.Opening.{opening}
use Rattle.abstract_log.specs.Turns.{IsStep}
use Rattle.stage_world.specs.Schedules.{after_steps, events_of, step_of}
use Rattle.stage_world.specs.Idle.{IsIdleTurn}
use Rattle.stage_world.specs.Whole.{StandsFor}
use Rattle.world.specs.declared.network.Network.{Network}
use Rattle.world.specs.declared.stages.Played.{Played}
use Rattle.world.specs.Showing.{Shows}

-- a turn that was taken, and whether it belongs to settling
pub record TakenTurn : Type 0 where
  pub step : Step
  pub settling : Bool

abbrev pub steps_of : List TakenTurn → List Step
steps_of ts = map (λ t. t.step) ts

-- the turns of a script's own steps, and of settling
abbrev pub taken_of : List Step → List TakenTurn
taken_of steps = map (λ s. record { step = s; settling = false }) steps

abbrev pub settled : List Step → List TakenTurn
settled steps = map (λ s. record { step = s; settling = true }) steps

-- the stage line of a turn from stages z on
abbrev pub line_of : Workload → Stages → TakenTurn → StageLine
line_of load z t = record { step = t.step; outcome = (step_of load z t.step).outcome; settling = t.settling }

-- These lines are a line before these others, or the others alone: that of a turn of settling is left out exactly where the turn is idle.
abbrev pub IsBefore : Type 0 → StageLine → List StageLine → List StageLine → Type 0
IsBefore idle line more lines =
    ((lines ≡ line ∷ more) × (line.settling ≡ true → idle → ⊥))
    ⊎ ((lines ≡ more) × (line.settling ≡ true) × idle)

-- what is written of a turn: its line, or nothing where it is one of settling and changed nothing
abbrev pub lines_told : Step → Outcome → Bool → Bool → List StageLine
lines_told step outcome settling changed = if changed || not settling then record { step = step; outcome = outcome; settling = settling } ∷ [] else []

-- The stage lines of turns from stages z on: one for each turn, but for those of settling that are idle.
abbrev pub AreLines : Workload → Stages → List TakenTurn → List StageLine → Type 0
AreLines load z [] lines = lines ≡ []
AreLines load z (t ∷ ts) lines =
    (more : List StageLine) × IsBefore (IsIdleTurn load z t.step) (line_of load z t) more lines × AreLines load (step_of load z t.step).after ts more

-- the stages after turns, and their events
abbrev pub stages_after : Script → List TakenTurn → Stages
stages_after script ts = after_steps script.workload (opening script) (steps_of ts)

abbrev pub events_after : Script → List TakenTurn → List Event
events_after script ts = events_of script.workload (opening script) (steps_of ts)

-- what contracts see of all stages: the workload, the datacentres and links, what was written, and whether memory was wanted
pub record StagesState : Type 0 where
  pub workload : Workload
  pub network : Network
  pub events : List Event
  pub lines : List StageLine
  pub failed : Bool

-- These are the stages that the script opens, after these turns; the events and the lines are those of the turns.
pub record HasTaken (script : Script) (ts : List TakenTurn) (s : StagesState) : Type 0 where
  pub fits : FitsScript script
  pub steps : All (IsStep script.workload) (steps_of ts)
  pub well : s.failed ≡ false
  pub workload : s.workload ≡ script.workload
  pub shown : Shows script.workload.dcs (stages_after script ts) s.network
  pub events : s.events ≡ events_after script ts
  pub lines : AreLines script.workload (opening script) ts s.lines

-- These are stages that some script opens, after some turns.
pub record HaveTakenTurns (s : StagesState) : Type 0 where
  pub script : Script
  pub turns : List TakenTurn
  pub taken : HasTaken script turns s

-- What was written is a run on the script's workload, the one of these turns, with their lines; the stages after the turns stand
-- for the world that the run leaves, and what is told to be left is what that world has.
pub record IsPlayed (script : Script) (ts : List TakenTurn) (played : Played) : Type 0 where
  pub workload : played.run.workload ≡ script.workload
  pub events : played.run.events ≡ events_after script ts
  pub lines : AreLines script.workload (opening script) ts played.stages
  pub is_run : IsRun script.workload played.run.events
  pub stands : StandsFor (world_of script.workload played.run.events) (stages_after script ts)
  pub left : played.left ≡ left_of (world_of script.workload played.run.events)
