-- The summary of a run: what was asked and what happened, as numbers.
use Rattle.std.specs.Prelude.{ℕ, ◌==◌, Bool, false, List, [], ◌∷◌, ◌++◌, length, codes, Option, None, Some, sum_by, count_by}
use Rattle.std.specs.Fmt.{decimal}
use Rattle.abstract_log.specs.declared.command.SessionPlan.{SessionPlan}
use Rattle.abstract_log.specs.declared.command.Workload.{Workload}
use Rattle.abstract_log.specs.declared.event.Event.{Event}
use Rattle.abstract_log.specs.declared.event.Event.TheVariants.{Collect}
use Rattle.abstract_log.specs.declared.event.Run.{Run}
use Rattle.abstract_log.specs.declared.script.StageLine.{StageLine}
use Rattle.abstract_log.specs.declared.world.World.{World}
use Rattle.abstract_log.specs.Commands.{is_write}
use Rattle.abstract_log.specs.Fits.{commands_of}
use Rattle.abstract_log.specs.Runs.{world_of}
use Rattle.abstract_log.specs.Worlds.{gone_of}
use Rattle.report_text.specs.Lines.{lines_text}
use Rattle.report_text.specs.Numbered.{below}
use Rattle.report_text.specs.Report.{end_line, fact_lines}
use Rattle.report_text.specs.Values.{letter}

-- how many commands of a session, and of all, write a record
abbrev pub writes_in : SessionPlan → ℕ
writes_in plan = count_by is_write plan.commands

abbrev pub writes_of : List SessionPlan → ℕ
writes_of plans = sum_by writes_in plans

abbrev pub asked_lines : Workload → List (List (List ℕ))
asked_lines load =
    fact_lines (codes "datacentres") load.dcs ++ fact_lines (codes "sessions") (length load.sessions)
    ++ fact_lines (codes "commands") (commands_of load.sessions) ++ fact_lines (codes "records") (writes_of load.sessions)

-- how many turns the stages took, where they made the run
abbrev pub turns_lines : Option (List StageLine) → List (List (List ℕ))
turns_lines None = []
turns_lines (Some stages) = fact_lines (codes "stages") (length stages)

-- how many positions of a datacentre are gone
abbrev pub gone_count_lines : World → ℕ → List (List (List ℕ))
gone_count_lines w d = (codes "gone" ∷ letter d ∷ decimal (length (gone_of w d)) ∷ []) ∷ []

abbrev pub summary_lines : Run → Option (List StageLine) → List (List (List ℕ))
summary_lines run stages =
    asked_lines run.workload ++ fact_lines (codes "events") (length run.events) ++ turns_lines stages
    ++ below (gone_count_lines (world_of run.workload run.events)) run.workload.dcs ++ end_line

abbrev pub summary_text : Run → Option (List StageLine) → List ℕ
summary_text run stages = lines_text (summary_lines run stages)

-- The same by the events: each position that is gone was collected by one.

abbrev pub collects_at : ℕ → Event → Bool
collects_at d (Collect of p) = of == d
collects_at d _ = false

abbrev pub collected_lines : List Event → ℕ → List (List (List ℕ))
collected_lines events d = (codes "gone" ∷ letter d ∷ decimal (count_by (collects_at d) events) ∷ []) ∷ []
