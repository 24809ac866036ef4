use Rattle.causal_deps.proofs.LogsLemmas.{names_once}
use Rattle.abstract_log.specs.Worlds.{log_of}
use Rattle.abstract_log.specs.Runs.{world_of}
use Rattle.log_laws.proofs.LawfulRuns.{lawful}
use Rattle.log_laws.proofs.laws.names_stand_once.Goals as goal

pub returns : goal.returns
returns c = λ load events run d j k q r. names_once (log_of (world_of load events) d) j k q r ((lawful load events run).causal d)
