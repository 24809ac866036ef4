use Rattle.std.proofs.Common.{ap, arith}
use Rattle.abstract_log.specs.declared.command.Workload.{Workload}
use Rattle.abstract_log.specs.declared.world.World.{World}
use Rattle.abstract_log.specs.Runs.{world_of}
use Rattle.log_laws.specs.Writes.{writes_at, writes_of}
use Rattle.log_laws.proofs.LimitedRuns.{IsKept, kept, workload_is, positions_few, numbers_few}
use Rattle.log_laws.proofs.laws.writes_bound_logs.Goals as goal

pub returns : goal.returns
returns c = λ load events fits run d.
    let w : World = world_of load events in
    let h : IsKept w = kept load events fits run in (
      omega (arith, positions_few w h d, ap (λ (l : Workload). writes_of l.sessions) (workload_is load events)),
      λ g. omega (arith, numbers_few w h d g, ap (λ (l : Workload). writes_at l.sessions g) (workload_is load events)),
    )
