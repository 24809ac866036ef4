use Rattle.std.proofs.Common.{[], ◌∷◌}
use Rattle.abstract_log.specs.Worlds.{start}
use Rattle.log_laws.proofs.Runs.{CanAllHappen-append}
use Rattle.log_laws.proofs.laws.run_goes_on.Goals as goal

pub returns : goal.returns
returns c = λ load events event run can. CanAllHappen-append (start load) events (event ∷ []) run (can, tt)
