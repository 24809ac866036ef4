-- Runs, one event at a time.
use Rattle.std.proofs.Common.{List, [], ◌∷◌, ◌++◌}
use Rattle.abstract_log.specs.declared.command.Workload.{Workload}
use Rattle.abstract_log.specs.declared.event.Event.{Event}
use Rattle.abstract_log.specs.declared.world.World.{World}
use Rattle.abstract_log.specs.Worlds.{start}
use Rattle.abstract_log.specs.Steps.{CanHappen, after}
use Rattle.abstract_log.specs.Runs.{IsRun, CanAllHappen, after_all, world_of}

more_after : (w : World) (es : List Event) (e : Event) → CanAllHappen w es → CanHappen (after_all w es) e → CanAllHappen w (es ++ e ∷ [])
more_after w [] e run can = (can, tt)
more_after w (x ∷ xs) e run can = (run.0, more_after (after w x) xs e run.1 can)

-- a run followed by a step is a run
pub run_more : (load : Workload) (log : List Event) (e : Event) → IsRun load log → CanHappen (world_of load log) e → IsRun load (log ++ e ∷ [])
run_more load log e run can = more_after (start load) log e run can
