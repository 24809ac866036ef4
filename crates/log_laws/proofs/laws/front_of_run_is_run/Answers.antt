use Rattle.abstract_log.specs.Worlds.{start}
use Rattle.log_laws.proofs.Runs.{CanAllHappen-take}
use Rattle.log_laws.proofs.laws.front_of_run_is_run.Goals as goal

pub returns : goal.returns
returns c = λ load events n run. CanAllHappen-take (start load) n events run
