use Rattle.abstract_log.specs.Runs.{world_of}
use Rattle.log_laws.proofs.LimitedRuns.{kept, names_awaited}
use Rattle.log_laws.proofs.laws.names_wait_elsewhere.Goals as goal

pub returns : goal.returns
returns c = λ load events fits run. names_awaited (world_of load events) (kept load events fits run)
