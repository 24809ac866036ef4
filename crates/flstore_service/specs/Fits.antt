-- The ranges that each script keeps.
use Rattle.std.specs.Prelude.{ℕ, ◌+◌, ◌<◌, ◌≤◌, Bool, true, false, List, length, All}
use Rattle.std.specs.List.{count_by}
use Rattle.cz_base.specs.declared.limits.TheConstants.{MEMBERS, ROUND, STEPS}
use Rattle.cz_base.specs.Text.{IsBody}
use Rattle.abstract_log.specs.Turns.{IsPosition}
use Rattle.flstore_service.specs.declared.script.FlScript.{FlScript}
use Rattle.flstore_service.specs.declared.script.FlStep.{FlStep}
use Rattle.flstore_service.specs.declared.script.FlStep.TheVariants.{Put, After, Gossip, Head, Read, AddMaintainer}

-- the numbers of maintainers and positions are in their ranges
abbrev pub FitsFlStep : FlStep → Type 0
FitsFlStep (Put m body) = (m < MEMBERS) × IsBody body
FitsFlStep (After m p body) = (m < MEMBERS) × (IsPosition p × IsBody body)
FitsFlStep (Gossip m k) = (m < MEMBERS) × (k < MEMBERS)
FitsFlStep (Head m) = m < MEMBERS
FitsFlStep (Read m p) = (m < MEMBERS) × IsPosition p
FitsFlStep (AddMaintainer p) = IsPosition p

-- the step counts as one maintainer more, whatever becomes of it
abbrev pub adds_maintainer : FlStep → Bool
adds_maintainer (AddMaintainer p) = true
adds_maintainer other = false

-- how many maintainers steps add at most
abbrev pub additions : List FlStep → ℕ
additions steps = count_by adds_maintainer steps

pub record FitsFlScript (script : FlScript) : Type 0 where
  pub round : (1 ≤ script.round) × (script.round ≤ ROUND)
  pub some : 1 ≤ script.maintainers
  pub few : script.maintainers + additions script.steps ≤ MEMBERS
  pub steps : length script.steps ≤ STEPS
  pub each : All FitsFlStep script.steps
