use Rattle.std.proofs.Common.{subst, All}
use Rattle.abstract_log.specs.declared.command.Workload.{Workload}
use Rattle.abstract_log.specs.Worlds.{log_of}
use Rattle.abstract_log.specs.Runs.{world_of}
use Rattle.log_laws.specs.Records.{IsValid}
use Rattle.log_laws.proofs.LimitedRuns.{laws_of_run, workload_is}
use Rattle.log_laws.proofs.laws.records_are_valid.Goals as goal

pub returns : goal.returns
returns c = λ load events limits run d.
    subst (λ (l : Workload). All (IsValid l.dcs) (log_of (world_of load events) d)) (workload_is load events) ((laws_of_run load events limits run).valid d)
