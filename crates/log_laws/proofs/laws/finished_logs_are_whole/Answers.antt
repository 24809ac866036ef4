use Rattle.std.proofs.Common.{subst}
use Rattle.abstract_log.specs.declared.command.Workload.{Workload}
use Rattle.abstract_log.specs.Runs.{world_of}
use Rattle.log_laws.specs.Lawful.{AreLogsWhole}
use Rattle.log_laws.proofs.LimitedRuns.{kept, workload_is}
use Rattle.log_laws.proofs.FinishedLogs.{logs_whole}
use Rattle.log_laws.proofs.laws.finished_logs_are_whole.Goals as goal

pub returns : goal.returns
returns c = λ load events fits run finished.
    subst (λ (l : Workload). AreLogsWhole l (world_of load events)) (workload_is load events) (logs_whole (world_of load events) (kept load events fits run) finished)
