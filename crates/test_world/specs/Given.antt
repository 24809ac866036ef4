-- The workload of the tests, and what a report asks of a run.
use Rattle.std.specs.Prelude.{◌≡◌, ℕ, List, [], ◌∷◌}
use Rattle.cz_base.specs.Text.{IsName, IsBody}
use Rattle.abstract_log.specs.declared.command.Command.{Command}
use Rattle.abstract_log.specs.declared.command.Command.TheVariants.{Put, Read}
use Rattle.abstract_log.specs.declared.command.Workload.{Workload}
use Rattle.abstract_log.specs.Fits.{FitsLimits}
use Rattle.abstract_log.specs.Left.{left_of}
use Rattle.abstract_log.specs.Runs.{world_of}
use Rattle.world.specs.declared.stages.Played.{Played}

-- one put
pub record AreOnePut (commands : List Command) : Type 0 where
  pub key : List ℕ
  pub body : List ℕ
  pub named : IsName key
  pub written : IsBody body
  pub is : commands ≡ Put key body ∷ []

-- a session at A with one put, and one at B that reads the first position
pub record IsGiven (load : Workload) : Type 0 where
  pub writes : List Command
  pub put : AreOnePut writes
  pub is : load ≡ record { dcs = 2; sessions = record { home = 0; commands = writes } ∷ record { home = 1; commands = Read 1 ∷ [] } ∷ [] }

-- The run is on a workload within the limits, and what it leaves is told.
pub record IsToldWhole (played : Played) : Type 0 where
  pub limits : FitsLimits played.run.workload
  pub left : played.left ≡ left_of (world_of played.run.workload played.run.events)
