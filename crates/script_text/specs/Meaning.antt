-- What each line of a script says, and which script lines spell.
use Rattle.std.specs.Prelude.{ℕ, zero, suc, ◌+◌, ◌==◌, ◌||◌, Bool, true, false, not, min, nat_le, nat_lt, List, [], ◌∷◌, ◌++◌, length, if◌then◌else◌, Option, Some, None, Result, Ok, Err}
use Rattle.std.specs.List.{list_all, list_any, find}
use Rattle.cz_base.specs.declared.limits.TheConstants.{DATACENTRES, MEMBERS, SESSIONS, COMMANDS, STEPS, ROUND, LAST_RECORDS}
use Rattle.abstract_log.specs.declared.command.Command.{Command as CommandOf}
use Rattle.abstract_log.specs.declared.command.Command.TheVariants as command
use Rattle.abstract_log.specs.declared.command.SessionPlan.{SessionPlan}
use Rattle.abstract_log.specs.declared.script.Script.{Script}
use Rattle.abstract_log.specs.declared.script.Sizes.{Sizes}
use Rattle.abstract_log.specs.declared.script.Step.{Step}
use Rattle.script_text.specs.declared.fault.Cause.{Cause}
use Rattle.script_text.specs.declared.fault.Cause.TheVariants.{BadByte, BadSpacing, AfterEnd, UnknownWord, OutOfPlace, WrongWords, GivenTwice, TooMany, TooShort}
use Rattle.script_text.specs.declared.fault.ScriptFault.{ScriptFault}
use Rattle.script_text.specs.declared.fault.ScriptFault.TheVariants.{Bad}
use Rattle.script_text.specs.declared.keyword.Keyword.{Keyword}
use Rattle.script_text.specs.declared.keyword.Keyword.TheVariants.{Chariots, Datacentres, Round, Stages, Session, Command, Steps, Turn, End}
use Rattle.script_text.specs.declared.keyword.CommandWord.{CommandWord}
use Rattle.script_text.specs.declared.keyword.CommandWord.TheVariants.{Append, Put, Del, Get, Tx, Read, Last}
use Rattle.script_text.specs.declared.keyword.TurnWord.{TurnWord}
use Rattle.script_text.specs.declared.section.Section.TheVariants as section
use Rattle.script_text.specs.declared.progress.Progress.{Progress}
use Rattle.script_text.specs.declared.progress.SizesLine.{SizesLine}
use Rattle.script_text.specs.Words.{words, is_line_byte, is_empty_word}
use Rattle.script_text.specs.Keywords.{keyword_of, stands, turn_arguments, least_words, most_words, is_ended}
use Rattle.script_text.specs.Reading.{◌>>=◌, greatest_number, number_at, datacentre_at, body_at, name_at, names_in}
use Rattle.script_text.specs.declared.members.Addition.{Addition}
use Rattle.script_text.specs.Members.{added_by, additions, members, one_of_each}
use Rattle.script_text.specs.Arguments.{no_arguments, arguments_at, step_said}

-- nothing has been said
abbrev pub start : Progress
start = record { section = section.Start; dcs = 0; round = 0; stages = []; sessions = []; commands = 0; steps = [] }

-- The lines, each by its words after the first.

unfoldable pub chariots_line : Progress → List (List ℕ) → Result Progress Cause
chariots_line said rest = do
  version ← number_at 1 1 rest
  Ok (record said { section = section.Datacentres })

unfoldable pub datacentres_line : Progress → List (List ℕ) → Result Progress Cause
datacentres_line said rest = do
  dcs ← number_at 1 DATACENTRES rest
  Ok (record said { dcs = dcs.0; section = section.Round })

unfoldable pub round_line : Progress → List (List ℕ) → Result Progress Cause
round_line said rest = do
  round ← number_at 1 ROUND rest
  Ok (record said { round = round.0; section = section.Stages })

-- how many batchers, filters, queues, maintainers, indexers, senders and receivers there are
unfoldable pub sizes_at : List (List ℕ) → Result (Sizes × List (List ℕ)) Cause
sizes_at rest = do
  batchers ← number_at 1 MEMBERS rest
  filters ← number_at 1 MEMBERS batchers.1
  queues ← number_at 1 MEMBERS filters.1
  maintainers ← number_at 1 MEMBERS queues.1
  indexers ← number_at 1 MEMBERS maintainers.1
  senders ← number_at 1 MEMBERS indexers.1
  receivers ← number_at 1 MEMBERS senders.1
  Ok (record { batchers = batchers.0; filters = filters.0; queues = queues.0; maintainers = maintainers.0; indexers = indexers.0; senders = senders.0; receivers = receivers.0 }, receivers.1)

abbrev pub is_given : List SizesLine → ℕ → Bool
is_given stages dc = list_any (λ given. given.dc == dc) stages

unfoldable pub stages_line : Progress → List (List ℕ) → Result Progress Cause
stages_line said rest = do
  dc ← datacentre_at said.dcs rest
  sizes ← sizes_at dc.1
  if is_given said.stages dc.0 then Err GivenTwice else Ok (record said { stages = said.stages ++ record { dc = dc.0; sizes = sizes.0 } ∷ [] })

-- at most `SESSIONS` of them
unfoldable pub session_line : Progress → List (List ℕ) → Result Progress Cause
session_line said rest = do
  home ← datacentre_at said.dcs rest
  if length said.sessions == SESSIONS then Err TooMany else Ok (record said { sessions = said.sessions ++ record { home = home.0; commands = [] } ∷ []; section = section.Sessions })

-- one more command of the last session
abbrev pub onto_last : List SessionPlan → CommandOf → List SessionPlan
onto_last [] command = []
onto_last (plan ∷ []) command = record { home = plan.home; commands = plan.commands ++ command ∷ [] } ∷ []
onto_last (plan ∷ next ∷ more) command = plan ∷ onto_last (next ∷ more) command

-- at most `COMMANDS` of them
unfoldable pub with_command : Progress → CommandOf → Result Progress Cause
with_command said command = if nat_le COMMANDS said.commands then Err TooMany else (if length said.sessions == 0 then Err OutOfPlace else Ok (record said { sessions = onto_last said.sessions command; commands = said.commands + 1 }))

unfoldable pub append_line : Progress → List (List ℕ) → Result Progress Cause
append_line said rest = do
  body ← body_at rest
  tags ← names_in body.1
  with_command said (command.Append tags body.0)

unfoldable pub put_line : Progress → List (List ℕ) → Result Progress Cause
put_line said rest = do
  key ← name_at rest
  body ← body_at key.1
  with_command said (command.Put key.0 body.0)

unfoldable pub del_line : Progress → List (List ℕ) → Result Progress Cause
del_line said rest = do
  key ← name_at rest
  with_command said (command.Del key.0)

unfoldable pub get_line : Progress → List (List ℕ) → Result Progress Cause
get_line said rest = do
  key ← name_at rest
  with_command said (command.Get key.0)

unfoldable pub tx_line : Progress → List (List ℕ) → Result Progress Cause
tx_line said rest = do
  keys ← names_in rest
  with_command said (command.Tx keys)

unfoldable pub read_line : Progress → List (List ℕ) → Result Progress Cause
read_line said rest = do
  lid ← number_at 1 greatest_number rest
  with_command said (command.Read lid.0)

unfoldable pub last_line : Progress → List (List ℕ) → Result Progress Cause
last_line said rest = do
  tag ← name_at rest
  count ← number_at 1 LAST_RECORDS tag.1
  with_command said (command.Last tag.0 count.0)

-- the commands
abbrev pub command_meaning : Progress → CommandWord → List (List ℕ) → Result Progress Cause
command_meaning said Append rest = append_line said rest
command_meaning said Put rest = put_line said rest
command_meaning said Del rest = del_line said rest
command_meaning said Get rest = get_line said rest
command_meaning said Tx rest = tx_line said rest
command_meaning said Read rest = read_line said rest
command_meaning said Last rest = last_line said rest

-- the sizes that a line gives
abbrev pub sizes_found : Option SizesLine → Sizes
sizes_found None = one_of_each
sizes_found (Some given) = given.sizes

abbrev pub sizes_given : List SizesLine → ℕ → Sizes
sizes_given stages dc = sizes_found (find (λ given. given.dc == dc) stages)

-- whether an addition comes to a stage that has as many members as it may have
abbrev pub is_full : List SizesLine → List Step → Option Addition → Bool
is_full stages steps None = false
is_full stages steps (Some a) = nat_le MEMBERS (members a.stage (sizes_given stages a.dc) + additions a.dc a.stage steps)

-- at most `STEPS` of them, and none that adds a member where there is no room for it
unfoldable pub with_step : Progress → Step → Result Progress Cause
with_step said step =
    if nat_le STEPS (length said.steps) || is_full said.stages said.steps (added_by step) then Err TooMany
    else Ok (record said { steps = said.steps ++ step ∷ [] })

-- the step lines
unfoldable pub turn_line : Progress → TurnWord → List (List ℕ) → Result Progress Cause
turn_line said word rest = do
  given ← arguments_at said.dcs (length said.sessions) no_arguments (turn_arguments word) rest
  with_step said (step_said word given)

-- all lines
abbrev pub meaning : Progress → Keyword → List (List ℕ) → Result Progress Cause
meaning said Chariots rest = chariots_line said rest
meaning said Datacentres rest = datacentres_line said rest
meaning said Round rest = round_line said rest
meaning said Stages rest = stages_line said rest
meaning said Session rest = session_line said rest
meaning said (Command word) rest = command_meaning said word rest
meaning said Steps rest = Ok (record said { section = section.Steps })
meaning said (Turn word) rest = turn_line said word rest
meaning said End rest = Ok (record said { section = section.Ended })

-- a line by its first word and the words after it, with the first cause that applies
abbrev pub keyword_after : Progress → Option Keyword → List (List ℕ) → Result Progress Cause
keyword_after said None rest = Err UnknownWord
keyword_after said (Some keyword) rest =
    if not (stands keyword said.section) then Err OutOfPlace
    else (if nat_lt (length rest) (least_words keyword) || nat_lt (most_words keyword) (length rest) then Err WrongWords
    else meaning said keyword rest)

unfoldable pub words_after : Progress → List (List ℕ) → Result Progress Cause
words_after said [] = Err UnknownWord
words_after said (first ∷ more) = keyword_after said (keyword_of first) more

-- an empty line or a comment
abbrev pub is_passed_over : List ℕ → Bool
is_passed_over [] = true
is_passed_over (first ∷ more) = first == 35

-- a whole line, with the first cause that applies
unfoldable pub line_after : Progress → List ℕ → Result Progress Cause
line_after said line =
    if not (list_all is_line_byte line) then Err BadByte
    else (if is_passed_over line then Ok said
    else (if list_any is_empty_word (words line) then Err BadSpacing
    else (if is_ended said.section then Err AfterEnd
    else words_after said (words line))))

-- the sizes of the datacentres below a number
abbrev pub sizes_upto : List SizesLine → ℕ → List Sizes
sizes_upto stages zero = []
sizes_upto stages (suc dc) = sizes_upto stages dc ++ sizes_given stages dc ∷ []

-- the script that all lines have said
abbrev pub script_said : Progress → Script
script_said all = record { workload = record { dcs = all.dcs; sessions = all.sessions }; round = all.round; sizes = sizes_upto all.stages all.dcs; steps = all.steps }

-- a cause at a line
abbrev pub told : {A : Type 0} → ℕ → Result A Cause → Result A ScriptFault
told number (Ok value) = Ok value
told number (Err cause) = Err (Bad number cause)

-- the number of the next line; a count of 32 bits stands still at its end
abbrev pub next_number : ℕ → ℕ
next_number number = min (number + 1) greatest_number

-- the script that the lines from a number on spell after what was said before, or the first bad line with its first cause
abbrev pub script_from : Progress → ℕ → List (List ℕ) → Result Script ScriptFault
script_from before number [] = if is_ended before.section then Ok (script_said before) else Err (Bad number TooShort)
script_from before number (line ∷ more) = told number (line_after before line) >>= λ after. script_from after (next_number number) more

-- the script that lines spell, or the first bad line with its first cause
abbrev pub script_of : List (List ℕ) → Result Script ScriptFault
script_of lines = script_from start 1 lines
