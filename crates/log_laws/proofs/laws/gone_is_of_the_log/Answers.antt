use Rattle.abstract_log.specs.Runs.{world_of}
use Rattle.log_laws.proofs.LimitedRuns.{kept, gone_of_log}
use Rattle.log_laws.proofs.laws.gone_is_of_the_log.Goals as goal

pub returns : goal.returns
returns c = λ load events fits run. gone_of_log (world_of load events) (kept load events fits run)
