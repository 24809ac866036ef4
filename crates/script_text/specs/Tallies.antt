-- Counts beside a list of steps: how many members they add to each stage of each datacentre.
use Rattle.std.specs.Prelude.{◌≡◌, ℕ, ◌+◌, ◌*◌, ◌<◌, List, length, slice_index}
use Rattle.cz_base.specs.declared.limits.TheConstants.{DATACENTRES}
use Rattle.abstract_log.specs.declared.script.Step.{Step}
use Rattle.script_text.specs.declared.members.TheConstants.{STAGES, PLACES}
use Rattle.script_text.specs.declared.members.Stage.{Stage}
use Rattle.script_text.specs.Members.{stage_number, additions}

-- where the count of a stage stands among those of all
abbrev pub place : ℕ → Stage → ℕ
place d stage = d * STAGES + stage_number stage

-- each count is that of the additions to its stage
pub record IsTally (steps : List Step) (added : List ℕ) : Type 0 where
  pub whole : length added ≡ PLACES
  pub each : (d : ℕ) (stage : Stage) → d < DATACENTRES → slice_index added (place d stage) ≡ additions d stage steps
