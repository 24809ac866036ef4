use Rattle.abstract_log.specs.Runs.{world_of}
use Rattle.log_laws.proofs.LimitedRuns.{kept}
use Rattle.log_laws.proofs.SessionsLemmas.{on_its_way}
use Rattle.log_laws.proofs.laws.sessions_are_on_their_way.Goals as goal

pub returns : goal.returns
returns c = λ load events fits run. on_its_way (world_of load events) (kept load events fits run).within
