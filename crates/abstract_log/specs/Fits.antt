-- The ranges that each workload and each script keeps.
use Rattle.std.specs.Prelude.{◌≡◌, ℕ, ◌+◌, ◌<◌, ◌≤◌, List, [], ◌∷◌, length, All}
use Rattle.cz_base.specs.declared.limits.TheConstants.{COMMANDS, KEYS, LAST_RECORDS, MEMBERS, ROUND, SESSIONS, STEPS, TAGS}
use Rattle.cz_base.specs.Text.{IsName, IsBody}
use Rattle.abstract_log.specs.declared.command.Command.{Command}
use Rattle.abstract_log.specs.declared.command.Command.TheVariants.{Append, Put, Del, Get, Tx, Read, Last}
use Rattle.abstract_log.specs.declared.command.SessionPlan.{SessionPlan}
use Rattle.abstract_log.specs.declared.command.Workload.{Workload}
use Rattle.abstract_log.specs.declared.script.Script.{Script}
use Rattle.abstract_log.specs.declared.script.Sizes.{Sizes}
use Rattle.abstract_log.specs.Shapes.{FitsWorkload}
use Rattle.abstract_log.specs.Turns.{IsPosition}

-- a number of members of a stage
abbrev pub IsSize : ℕ → Type 0
IsSize n = (1 ≤ n) × (n ≤ MEMBERS)

pub record FitsSizes (sizes : Sizes) : Type 0 where
  pub batchers : IsSize sizes.batchers
  pub filters : IsSize sizes.filters
  pub queues : IsSize sizes.queues
  pub maintainers : IsSize sizes.maintainers
  pub indexers : IsSize sizes.indexers
  pub senders : IsSize sizes.senders
  pub receivers : IsSize sizes.receivers

abbrev pub FitsCommand : Command → Type 0
FitsCommand (Append tags body) = (length tags ≤ TAGS) × (All IsName tags × IsBody body)
FitsCommand (Put key body) = IsName key × IsBody body
FitsCommand (Del key) = IsName key
FitsCommand (Get key) = IsName key
FitsCommand (Tx keys) = (1 ≤ length keys) × ((length keys ≤ KEYS) × All IsName keys)
FitsCommand (Read lid) = IsPosition lid
FitsCommand (Last tag n) = IsName tag × ((1 ≤ n) × (n ≤ LAST_RECORDS))

-- a session at one of so many datacentres
pub record FitsPlan (dcs : ℕ) (plan : SessionPlan) : Type 0 where
  pub home : plan.home < dcs
  pub commands : All FitsCommand plan.commands

-- how many commands the sessions have
abbrev pub commands_of : List SessionPlan → ℕ
commands_of [] = 0
commands_of (plan ∷ more) = length plan.commands + commands_of more

-- the limits of a workload: how many datacentres, sessions and commands it has, each in its ranges
pub record FitsLimits (load : Workload) : Type 0 where
  pub workload : FitsWorkload load
  pub sessions : length load.sessions ≤ SESSIONS
  pub plans : All (FitsPlan load.dcs) load.sessions
  pub commands : commands_of load.sessions ≤ COMMANDS

pub record FitsScript (script : Script) : Type 0 where
  pub limits : FitsLimits script.workload
  pub round : (1 ≤ script.round) × (script.round ≤ ROUND)
  pub each : length script.sizes ≡ script.workload.dcs
  pub sizes : All FitsSizes script.sizes
  pub steps : length script.steps ≤ STEPS
