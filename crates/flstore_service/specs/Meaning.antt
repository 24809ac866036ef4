-- What each line of a script says, and which script lines spell.
use Rattle.std.specs.Prelude.{ℕ, ◌+◌, ◌==◌, not, nat_le, List, [], ◌∷◌, ◌++◌, length, if◌then◌else◌, Option, Some, None, Result, Ok, Err}
use Rattle.std.specs.List.{list_all, list_any}
use Rattle.cz_base.specs.declared.limits.TheConstants.{MEMBERS, STEPS, ROUND}
use Rattle.script_text.specs.declared.fault.Cause.{Cause}
use Rattle.script_text.specs.declared.fault.Cause.TheVariants.{BadByte, BadSpacing, AfterEnd, UnknownWord, OutOfPlace, WrongWords, TooMany, TooShort}
use Rattle.script_text.specs.declared.fault.ScriptFault.{ScriptFault}
use Rattle.script_text.specs.declared.fault.ScriptFault.TheVariants.{Bad}
use Rattle.script_text.specs.Words.{words, is_line_byte, is_empty_word}
use Rattle.script_text.specs.Reading.{◌>>=◌, greatest_number, number_at, number_below_at, body_at}
use Rattle.script_text.specs.Meaning.{is_passed_over, next_number, told}
use Rattle.flstore_service.specs.declared.keyword.Keyword.{Keyword}
use Rattle.flstore_service.specs.declared.keyword.Keyword.TheVariants.{FlStore, Round, Maintainers, Put, After, Gossip, Head, Read, AddMaintainer, End}
use Rattle.flstore_service.specs.declared.keyword.Section.TheVariants as section
use Rattle.flstore_service.specs.declared.progress.Progress.{Progress}
use Rattle.flstore_service.specs.declared.script.FlScript.{FlScript}
use Rattle.flstore_service.specs.declared.script.FlStep.{FlStep}
use Rattle.flstore_service.specs.declared.script.FlStep.TheVariants as step
use Rattle.flstore_service.specs.Keywords.{is_ended, keyword_of, stands, words_after_first}

-- nothing has been said
abbrev pub nothing_said : Progress
nothing_said = record { section = section.Start; round = 0; maintainers = 0; members = 0; steps = [] }

-- The lines, each by its words after the first.

unfoldable pub flstore_line : Progress → List (List ℕ) → Result Progress Cause
flstore_line said rest = do
  version ← number_at 1 1 rest
  Ok (record said { section = section.Round })

unfoldable pub round_line : Progress → List (List ℕ) → Result Progress Cause
round_line said rest = do
  round ← number_at 1 ROUND rest
  Ok (record said { round = round.0; section = section.Maintainers })

unfoldable pub maintainers_line : Progress → List (List ℕ) → Result Progress Cause
maintainers_line said rest = do
  maintainers ← number_at 1 MEMBERS rest
  Ok (record said { maintainers = maintainers.0; members = maintainers.0; section = section.Steps })

-- at most `STEPS` of them
unfoldable pub with_step : Progress → FlStep → Result Progress Cause
with_step said x = if nat_le STEPS (length said.steps) then Err TooMany else Ok (record said { steps = said.steps ++ x ∷ [] })

unfoldable pub put_line : Progress → List (List ℕ) → Result Progress Cause
put_line said rest = do
  m ← number_below_at MEMBERS rest
  body ← body_at m.1
  with_step said (step.Put m.0 body.0)

unfoldable pub after_line : Progress → List (List ℕ) → Result Progress Cause
after_line said rest = do
  m ← number_below_at MEMBERS rest
  p ← number_at 1 greatest_number m.1
  body ← body_at p.1
  with_step said (step.After m.0 p.0 body.0)

unfoldable pub gossip_line : Progress → List (List ℕ) → Result Progress Cause
gossip_line said rest = do
  m ← number_below_at MEMBERS rest
  k ← number_below_at MEMBERS m.1
  with_step said (step.Gossip m.0 k.0)

unfoldable pub head_line : Progress → List (List ℕ) → Result Progress Cause
head_line said rest = do
  m ← number_below_at MEMBERS rest
  with_step said (step.Head m.0)

unfoldable pub read_line : Progress → List (List ℕ) → Result Progress Cause
read_line said rest = do
  m ← number_below_at MEMBERS rest
  p ← number_at 1 greatest_number m.1
  with_step said (step.Read m.0 p.0)

-- each line counts as one maintainer more, of which there are at most `MEMBERS`
unfoldable pub with_maintainer : Progress → ℕ → Result Progress Cause
with_maintainer said p = if nat_le MEMBERS said.members then Err TooMany else with_step (record said { members = said.members + 1 }) (step.AddMaintainer p)

unfoldable pub add_maintainer_line : Progress → List (List ℕ) → Result Progress Cause
add_maintainer_line said rest = do
  p ← number_at 1 greatest_number rest
  with_maintainer said p.0

-- all lines
abbrev pub meaning : Progress → Keyword → List (List ℕ) → Result Progress Cause
meaning said FlStore rest = flstore_line said rest
meaning said Round rest = round_line said rest
meaning said Maintainers rest = maintainers_line said rest
meaning said Put rest = put_line said rest
meaning said After rest = after_line said rest
meaning said Gossip rest = gossip_line said rest
meaning said Head rest = head_line said rest
meaning said Read rest = read_line said rest
meaning said AddMaintainer rest = add_maintainer_line said rest
meaning said End rest = Ok (record said { section = section.Ended })

-- a line by its first word and the words after it, with the first cause that applies
abbrev pub keyword_after : Progress → Option Keyword → List (List ℕ) → Result Progress Cause
keyword_after said None rest = Err UnknownWord
keyword_after said (Some keyword) rest =
    if not (stands keyword said.section) then Err OutOfPlace
    else (if not (length rest == words_after_first keyword) then Err WrongWords
    else meaning said keyword rest)

unfoldable pub words_after : Progress → List (List ℕ) → Result Progress Cause
words_after said [] = Err UnknownWord
words_after said (first ∷ more) = keyword_after said (keyword_of first) more

-- a whole line, with the first cause that applies
unfoldable pub line_after : Progress → List ℕ → Result Progress Cause
line_after said line =
    if not (list_all is_line_byte line) then Err BadByte
    else (if is_passed_over line then Ok said
    else (if list_any is_empty_word (words line) then Err BadSpacing
    else (if is_ended said.section then Err AfterEnd
    else words_after said (words line))))

-- the script that all lines have said
abbrev pub script_said : Progress → FlScript
script_said all = record { round = all.round; maintainers = all.maintainers; steps = all.steps }

-- the script that the lines from a number on spell after what was said before, or the first bad line with its first cause
abbrev pub script_from : Progress → ℕ → List (List ℕ) → Result FlScript ScriptFault
script_from before number [] = if is_ended before.section then Ok (script_said before) else Err (Bad number TooShort)
script_from before number (line ∷ more) = told number (line_after before line) >>= λ after. script_from after (next_number number) more

-- the script that lines spell, or the first bad line with its first cause
abbrev pub script_of : List (List ℕ) → Result FlScript ScriptFault
script_of lines = script_from nothing_said 1 lines
