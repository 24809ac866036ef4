-- How many writes a workload has, and how many of them are answered.
use Rattle.std.specs.Prelude.{ℕ, zero, suc, ◌+◌, ◌==◌, if◌then◌else◌, List, length, take, sum_by, count_by}
use Rattle.abstract_log.specs.declared.command.Command.{Command}
use Rattle.abstract_log.specs.declared.command.SessionPlan.{SessionPlan}
use Rattle.abstract_log.specs.declared.world.World.{World}
use Rattle.abstract_log.specs.Commands.{is_write}
use Rattle.abstract_log.specs.Worlds.{standing_of, plan_of}

-- f 0 + f 1 + .. + f (n - 1)
abbrev pub sum_below : (ℕ → ℕ) → ℕ → ℕ
sum_below f zero = 0
sum_below f (suc n) = sum_below f n + f n

-- how many of the commands are writes
abbrev pub writes_in : List Command → ℕ
writes_in commands = count_by is_write commands

-- how many writes the plans with home h have
abbrev pub writes_at : List SessionPlan → ℕ → ℕ
writes_at plans h = sum_by (λ plan. if plan.home == h then writes_in plan.commands else 0) plans

-- how many writes all plans have
abbrev pub writes_of : List SessionPlan → ℕ
writes_of plans = sum_by (λ plan. writes_in plan.commands) plans

-- how many writes of session s are answered, if its home is h
abbrev pub answered_by : World → ℕ → ℕ → ℕ
answered_by w h s = if (plan_of w.workload s).home == h then writes_in (take (standing_of w s).answered (plan_of w.workload s).commands) else 0

-- how many writes are answered at home h
abbrev pub answered_at : World → ℕ → ℕ
answered_at w h = sum_below (answered_by w h) (length w.sessions)
