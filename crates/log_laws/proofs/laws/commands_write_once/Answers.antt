use Rattle.abstract_log.specs.Runs.{world_of}
use Rattle.log_laws.proofs.LimitedRuns.{kept, one_record_each}
use Rattle.log_laws.proofs.laws.commands_write_once.Goals as goal

pub returns : goal.returns
returns c = λ load events fits run. one_record_each (world_of load events) (kept load events fits run)
