-- The members that step lines add to stages, and how many members a stage has with them.
use Rattle.std.specs.Prelude.{ℕ, ◌+◌, ◌<◌, ◌≤◌, ◌==◌, ◌&&◌, Bool, false, List, get_or, Option, Some, None}
use Rattle.std.specs.List.{count_by}
use Rattle.cz_base.specs.declared.limits.TheConstants.{MEMBERS}
use Rattle.abstract_log.specs.declared.script.Script.{Script}
use Rattle.abstract_log.specs.declared.script.Sizes.{Sizes}
use Rattle.abstract_log.specs.declared.script.Step.{Step}
use Rattle.abstract_log.specs.declared.script.Step.TheVariants as step
use Rattle.script_text.specs.declared.members.Stage.{Stage}
use Rattle.script_text.specs.declared.members.Stage.TheVariants.{Batchers, Filters, Queues, Maintainers, Senders, Receivers}
use Rattle.script_text.specs.declared.members.Addition.{Addition}

-- stages by number
abbrev pub stage_number : Stage → ℕ
stage_number Batchers = 0
stage_number Filters = 1
stage_number Queues = 2
stage_number Maintainers = 3
stage_number Senders = 4
stage_number Receivers = 5

-- The member that a step adds, if it adds one. Each announcement counts as a filter and each mark of a maintainer as a
-- maintainer, whatever becomes of it.
abbrev pub added_by : Step → Option Addition
added_by (step.Announce d h t) = Some (record { dc = d; stage = Filters })
added_by (step.AddMaintainer d p) = Some (record { dc = d; stage = Maintainers })
added_by (step.AddBatcher d) = Some (record { dc = d; stage = Batchers })
added_by (step.AddQueue d) = Some (record { dc = d; stage = Queues })
added_by (step.AddSender d) = Some (record { dc = d; stage = Senders })
added_by (step.AddReceiver d) = Some (record { dc = d; stage = Receivers })
added_by other = None

-- whether it is one of that stage of that datacentre
abbrev pub is_of : ℕ → Stage → Option Addition → Bool
is_of d stage None = false
is_of d stage (Some a) = (a.dc == d) && (stage_number a.stage == stage_number stage)

-- how many members steps add to a stage
abbrev pub additions : ℕ → Stage → List Step → ℕ
additions d stage steps = count_by (λ s. is_of d stage (added_by s)) steps

-- how many members a stage has at the start
abbrev pub members : Stage → Sizes → ℕ
members Batchers sizes = sizes.batchers
members Filters sizes = sizes.filters
members Queues sizes = sizes.queues
members Maintainers sizes = sizes.maintainers
members Senders sizes = sizes.senders
members Receivers sizes = sizes.receivers

-- where no line gives the sizes of a datacentre, it has one member in each stage
abbrev pub one_of_each : Sizes
one_of_each = record { batchers = 1; filters = 1; queues = 1; maintainers = 1; indexers = 1; senders = 1; receivers = 1 }

-- with all that the steps add, no stage has more members than it may have
abbrev pub FitsMembers : Script → Type 0
FitsMembers script = (d : ℕ) (stage : Stage) → d < script.workload.dcs → members stage (get_or script.sizes d one_of_each) + additions d stage script.steps ≤ MEMBERS
