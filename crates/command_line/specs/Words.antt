-- What the words of the command line ask for.
use Rattle.std.specs.Prelude.{◌^◌, ◌==◌, ◌&&◌, ℕ, Bool, false, nat_lt, List, [], ◌∷◌, length, Option, Some, None, option_map, if◌then◌else◌, codes, bytes_eq}
use Rattle.std.specs.Str.Parse.{digits_value}
use Rattle.std.specs.Fmt.{decimal}
use Rattle.std.specs.Borrow.{Bor}
use Rattle.clap.specs.Words.{Row, fault_of, first_of, matches_of}
use Rattle.command_line.specs.Command.{command}
use Rattle.command_line.specs.declared.task.Form.{Form}
use Rattle.command_line.specs.declared.task.Form.TheVariants.{Full, Logs, Summary, Json}
use Rattle.command_line.specs.declared.task.Task.{Task}
use Rattle.command_line.specs.declared.task.Task.TheVariants.{Replay, Generate, FlStore}

-- the command takes the words: no kind of error is theirs
unfoldable pub are_taken : List (List ℕ) → Bool
are_taken words = length (fault_of command words) == 0

-- what the command finds among the words
unfoldable pub found_in : List (List ℕ) → List Row
found_in words = matches_of command words

-- the text behind a reference, if there is one
abbrev pub text_behind : Option (Bor (List ℕ)) → Option (List ℕ)
text_behind = option_map (λ text. text.now)

-- the text that stands for one of its arguments
abbrev pub text_of : List ℕ → List (List ℕ) → Option (List ℕ)
text_of argument words = first_of argument (found_in words)

-- the name of a form
abbrev pub form_name : Form → List ℕ
form_name Full = codes "full"
form_name Logs = codes "logs"
form_name Summary = codes "summary"
form_name Json = codes "json"

-- the form with this name
abbrev pub form_named : List ℕ → Option Form
form_named name = if bytes_eq name (codes "full") then Some Full
    else (if bytes_eq name (codes "logs") then Some Logs
    else (if bytes_eq name (codes "summary") then Some Summary
    else (if bytes_eq name (codes "json") then Some Json else None)))

-- the form that is asked for: the logs, if none is named
abbrev pub form_asked : Option (List ℕ) → Option Form
form_asked None = Some Logs
form_asked (Some name) = form_named name

-- the number below 2^64 whose decimal text this is
abbrev pub seed_of : List ℕ → Option ℕ
seed_of text = let seed = digits_value 10 text in if nat_lt seed (2 ^ 64) && bytes_eq (decimal seed) text then Some seed else None

-- a replay takes no number
abbrev pub replay_of : Option (List ℕ) → Option (List ℕ) → Option Task
replay_of None form = option_map Replay (form_asked form)
replay_of (Some number) form = None

-- a script is generated from a seed, and its report has no choice of form
abbrev pub generate_of : Option (List ℕ) → Option (List ℕ) → Option Task
generate_of (Some number) None = option_map Generate (seed_of number)
generate_of (Some number) (Some form) = None
generate_of None form = None

-- a log by itself is run with nothing beside the mode
abbrev pub flstore_of : Option (List ℕ) → Option (List ℕ) → Option Task
flstore_of None None = Some FlStore
flstore_of None (Some form) = None
flstore_of (Some number) form = None

-- the task of a mode, with the number and the form that stand beside it
abbrev pub task_in_mode : List ℕ → Option (List ℕ) → Option (List ℕ) → Option Task
task_in_mode mode number form = if bytes_eq mode (codes "replay") then replay_of number form
    else (if bytes_eq mode (codes "gen") then generate_of number form
    else (if bytes_eq mode (codes "flstore") then flstore_of number form else None))

-- the task of what stands for the mode, the number and the form
abbrev pub task_from : Option (List ℕ) → Option (List ℕ) → Option (List ℕ) → Option Task
task_from None number form = None
task_from (Some mode) number form = task_in_mode mode number form

-- the task that the words ask for, if they ask for one
unfoldable pub task_of : List (List ℕ) → Option Task
task_of words = if are_taken words
    then task_from (text_of (codes "mode") words) (text_of (codes "number") words) (text_of (codes "form") words)
    else None

-- a word that begins with a hyphen is an option, or `--`
abbrev pub begins_with_hyphen : List ℕ → Bool
begins_with_hyphen [] = false
begins_with_hyphen (first ∷ rest) = first == 45
