use Rattle.causal_deps.proofs.LogsLemmas.{front_is_closed}
use Rattle.abstract_log.specs.Worlds.{log_of}
use Rattle.abstract_log.specs.Runs.{world_of}
use Rattle.log_laws.proofs.LawfulRuns.{lawful}
use Rattle.log_laws.proofs.laws.fronts_are_closed.Goals as goal

pub returns : goal.returns
returns c = λ load events run d n k r. front_is_closed (log_of (world_of load events) d) n k r ((lawful load events run).causal d)
