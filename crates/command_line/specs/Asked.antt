-- What stands for the arguments of the command where a task is asked for.
use Rattle.std.specs.Prelude.{◌≡◌, ◌<◌, ◌^◌, List, ℕ, Option, Some, None, codes}
use Rattle.std.specs.Fmt.{decimal}
use Rattle.command_line.specs.Words.{form_asked}
use Rattle.command_line.specs.declared.task.Task.{Task}
use Rattle.command_line.specs.declared.task.Task.TheVariants.{Replay, Generate, FlStore}

-- a mode, a number and a form ask for the task: `replay` with a form or none, `gen` with the decimal text of a seed, or `flstore` alone
abbrev pub IsAskedBy : Task → Option (List ℕ) → Option (List ℕ) → Option (List ℕ) → Type 0
IsAskedBy (Replay wanted) mode number form = (mode ≡ Some (codes "replay")) × (number ≡ None) × (form_asked form ≡ Some wanted)
IsAskedBy (Generate seed) mode number form = (mode ≡ Some (codes "gen")) × (seed < 2 ^ 64) × (number ≡ Some (decimal seed)) × (form ≡ None)
IsAskedBy FlStore mode number form = (mode ≡ Some (codes "flstore")) × (number ≡ None) × (form ≡ None)
