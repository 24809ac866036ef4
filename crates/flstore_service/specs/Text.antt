-- The text of a run.
use Rattle.std.specs.Prelude.{ℕ, List, [], ◌∷◌, ◌++◌, codes}
use Rattle.std.specs.Fmt.{decimal}
use Rattle.std.specs.List.{flat_map}
use Rattle.report_text.specs.Lines.{line_feed, with_space}
use Rattle.flstore_service.specs.declared.run.FlKept.{FlKept}
use Rattle.flstore_service.specs.declared.run.FlLine.{FlLine}
use Rattle.flstore_service.specs.declared.run.FlOutcome.{FlOutcome}
use Rattle.flstore_service.specs.declared.run.FlOutcome.TheVariants.{Absent, Placed, Kept, Heard, HeadAt, Beyond, Value, Late, EpochAdded}
use Rattle.flstore_service.specs.declared.run.FlPlace.{FlPlace}
use Rattle.flstore_service.specs.declared.run.FlRun.{FlRun}
use Rattle.flstore_service.specs.declared.script.FlStep.{FlStep}
use Rattle.flstore_service.specs.declared.script.FlStep.TheVariants as step

-- a number after a space
abbrev pub spaced_number : ℕ → List ℕ
spaced_number n = with_space (decimal n)

-- a step, without a body
abbrev pub step_text : FlStep → List ℕ
step_text (step.Put m body) = codes "put" ++ spaced_number m
step_text (step.After m p body) = codes "after" ++ (spaced_number m ++ spaced_number p)
step_text (step.Gossip m k) = codes "gossip" ++ (spaced_number m ++ spaced_number k)
step_text (step.Head m) = codes "head" ++ spaced_number m
step_text (step.Read m p) = codes "read" ++ (spaced_number m ++ spaced_number p)
step_text (step.AddMaintainer p) = codes "addmaintainer" ++ spaced_number p

-- positions, each after a space
abbrev pub lid_texts : List ℕ → List ℕ
lid_texts lids = flat_map spaced_number lids

abbrev pub released_text : List ℕ → List ℕ
released_text [] = []
released_text (lid ∷ lids) = with_space (codes "released") ++ lid_texts (lid ∷ lids)

-- what a body is written as
abbrev pub body_text : List ℕ → List ℕ
body_text body = codes " =" ++ body

-- an answer, after a space
abbrev pub outcome_text : FlOutcome → List ℕ
outcome_text Absent = with_space (codes "none")
outcome_text (Placed lid released) = spaced_number lid ++ released_text released
outcome_text Kept = with_space (codes "kept")
outcome_text (Heard s) = with_space (codes "head") ++ spaced_number s
outcome_text (HeadAt s) = spaced_number s
outcome_text Beyond = with_space (codes "beyond")
outcome_text (Value body) = body_text body
outcome_text (Late bound) = with_space (codes "late") ++ spaced_number bound
outcome_text (EpochAdded start members) = with_space (codes "epoch") ++ (spaced_number start ++ spaced_number members)

-- lines
abbrev pub turn_line : FlLine → List ℕ
turn_line line = step_text line.step ++ (with_space (codes "->") ++ (outcome_text line.outcome ++ line_feed))

abbrev pub turn_lines : List FlLine → List ℕ
turn_lines lines = flat_map turn_line lines

abbrev pub place_line : FlPlace → List ℕ
place_line place = decimal place.lid ++ (spaced_number place.number ++ (body_text place.body ++ line_feed))

abbrev pub place_lines : List FlPlace → List ℕ
place_lines places = flat_map place_line places

abbrev pub kept_line : FlKept → List ℕ
kept_line value = decimal value.number ++ (spaced_number value.member ++ (spaced_number value.bound ++ line_feed))

abbrev pub kept_lines : List FlKept → List ℕ
kept_lines values = flat_map kept_line values

-- the whole text
abbrev pub run_text : FlRun → List ℕ
run_text run = turn_lines run.lines ++ ((codes "log" ++ line_feed) ++ (place_lines run.places ++ ((codes "kept" ++ line_feed) ++ (kept_lines run.kept ++ (codes "end" ++ line_feed)))))
