-- What the counts of faults tell of a status, and where a run is told.
use Rattle.std.proofs.Common.{◌≡◌, ◌⊎◌, inl, inr, ◌<◌, ◌↔◌, ℕ, List, refl, subst, ◌∙◌, arith}
use Rattle.std.specs.Prelude.{Option, Some, None, Result, IsSome}
use Rattle.cz_base.specs.Faults.{Rose}
use Rattle.abstract_log.specs.declared.script.Script.{Script}
use Rattle.script_text.specs.Meaning.{script_of}
use Rattle.script_text.specs.declared.fault.ScriptFault.{ScriptFault}
use Rattle.flstore_service.specs.Meaning.{script_of as flscript_of}
use Rattle.script_generator.specs.Generated.{generated}
use Rattle.command_line.specs.declared.task.Form.{Form}
use Rattle.command_line.specs.declared.task.Form.TheVariants.{Summary}
use Rattle.command_line.specs.declared.task.Task.{Task}
use Rattle.command_line.specs.declared.task.Task.TheVariants.{Replay, Generate, FlStore}
use Rattle.top_calls.specs.declared.done.Done.{Done}
use Rattle.top_calls.specs.declared.done.Refusal.{Refusal}
use Rattle.top_calls.specs.declared.done.Refusal.TheVariants.{Words, Script as BadScript, TooLong, ReadFault, NoMemory}
use Rattle.top_calls.specs.Ending.{EndsFlStore, EndsGenerated, EndsReplay, EndsReport, EndsTask, IsRefused, IsRefusedFor, IsReported, IsReportStatus, StandsStill, status_of}

-- A count that stands still shows no fault.

pub still_shows_none : (before now : ℕ) → StandsStill before now → Rose before now → ⊥
still_shows_none before now still rose = omega (arith, still.0, still.1, rose)

-- A report.

not-both : (n : ℕ) → n ≡ 0 → n ≡ 5 → ⊥
not-both n none five = cc

report-whole : (w w' : Option (List ℕ)) (f f' : ℕ) (text : List ℕ) (status : ℕ) → EndsReport w w' f f' text status → status ≡ 0 → f' ≡ f
report-whole w w' f f' text status (inl whole) is = whole.1.1
report-whole w w' f f' text status (inr cut) is = absurd (not-both status is cut.0)

report-cut : (w w' : Option (List ℕ)) (f f' : ℕ) (text : List ℕ) (status : ℕ) → EndsReport w w' f f' text status → f < f' → status ≡ 5
report-cut w w' f f' text status (inl whole) more = absurd (omega (arith, whole.1.1, more))
report-cut w w' f f' text status (inr cut) more = cut.0

pub report_status : (w w' : Option (List ℕ)) (f f' : ℕ) (text : List ℕ) (status : ℕ) → EndsReport w w' f f' text status → IsReportStatus status
report_status w w' f f' text status (inl whole) = inl whole.0
report_status w w' f f' text status (inr cut) = inr cut.0

-- A refusal.

no_report : (refusal : Refusal) → IsReportStatus (status_of refusal) → ⊥
no_report Words (inl is) = cc
no_report Words (inr is) = cc
no_report (BadScript text) (inl is) = cc
no_report (BadScript text) (inr is) = cc
no_report TooLong (inl is) = cc
no_report TooLong (inr is) = cc
no_report ReadFault (inl is) = cc
no_report ReadFault (inr is) = cc
no_report NoMemory (inl is) = cc
no_report NoMemory (inr is) = cc

not-at : {such : Refusal → Type 0} (w w' : Option (List ℕ)) (f f' : ℕ) (done : Done) → IsRefused such w w' f f' done → IsReportStatus done.status → ⊥
not-at w w' f f' done refused at = no_report refused.refusal (subst IsReportStatus refused.status at)

none-there : {A : Type 0} (o : Option A) → o ≡ None → IsSome o → ⊥
none-there None none some = cc
none-there (Some x) none some = cc

some-there : {A : Type 0} (o : Option A) (x : A) → o ≡ Some x → IsSome o
some-there None x is = cc
some-there (Some y) x is = refl

-- What is told of a report or a refusal.

told-run : (form : Form) (script : Script) (w w' : Option (List ℕ)) (f f' : ℕ) (done : Done) → IsReported form script w w' f f' done → IsSome done.run ↔ IsReportStatus done.status
told-run form script w w' f f' done made = (λ _. report_status _ _ _ _ _ _ made.status, λ _. some-there _ _ made.run)

told-stages : (form : Form) (script : Script) (w w' : Option (List ℕ)) (f f' : ℕ) (done : Done) → IsReported form script w w' f f' done → IsSome done.stages ↔ IsReportStatus done.status
told-stages form script w w' f f' done made = (λ _. report_status _ _ _ _ _ _ made.status, λ _. some-there _ _ made.stages)

untold-run : {such : Refusal → Type 0} (w w' : Option (List ℕ)) (f f' : ℕ) (done : Done) → IsRefused such w w' f f' done → IsSome done.run ↔ IsReportStatus done.status
untold-run w w' f f' done refused = (λ some. absurd (none-there _ refused.no_run some), λ at. absurd (not-at w w' f f' done refused at))

untold-stages : {such : Refusal → Type 0} (w w' : Option (List ℕ)) (f f' : ℕ) (done : Done) → IsRefused such w w' f f' done → IsSome done.stages ↔ IsReportStatus done.status
untold-stages w w' f f' done refused = (λ some. absurd (none-there _ refused.no_stages some), λ at. absurd (not-at w w' f f' done refused at))

-- A replay.

pub replay_run_told : (form : Form) (old new : Option (List ℕ)) (before now : ℕ) (w w' : Option (List ℕ)) (f f' : ℕ) (done : Done) → EndsReplay form old new before now w w' f f' done
    → IsSome done.run ↔ IsReportStatus done.status
replay_run_told form old new before now w w' f f' done (inl made) = told-run form made.script w w' f f' done made.reported
replay_run_told form old new before now w w' f f' done (inr refused) = untold-run w w' f f' done refused

pub replay_stages_told : (form : Form) (old new : Option (List ℕ)) (before now : ℕ) (w w' : Option (List ℕ)) (f f' : ℕ) (done : Done) → EndsReplay form old new before now w w' f f' done
    → IsSome done.stages ↔ IsReportStatus done.status
replay_stages_told form old new before now w w' f f' done (inl made) = told-stages form made.script w w' f f' done made.reported
replay_stages_told form old new before now w w' f f' done (inr refused) = untold-stages w w' f f' done refused

pub replay_kept : (form : Form) (old new : Option (List ℕ)) (before now : ℕ) (w w' : Option (List ℕ)) (f f' : ℕ) (done : Done) → EndsReplay form old new before now w w' f f' done
    → done.status ≡ 0 → (now ≡ before) × (f' ≡ f)
replay_kept form old new before now w w' f f' done (inl made) is = (made.read.kept, report-whole _ _ _ _ _ _ made.reported.status is)
replay_kept form old new before now w w' f f' done (inr refused) is = absurd (not-at w w' f f' done refused (inl is))

refused-at_fault : {A : Type 0} (meaning : List (List ℕ) → Result A ScriptFault) (old new : Option (List ℕ)) (before now : ℕ) (refusal : Refusal) → IsRefusedFor meaning old new before now refusal → before < now → status_of refusal ≡ 4
refused-at_fault meaning old new before now Words why more = absurd why
refused-at_fault meaning old new before now (BadScript text) why more = absurd (omega (arith, why.1, more))
refused-at_fault meaning old new before now TooLong why more = absurd (omega (arith, why.1, more))
refused-at_fault meaning old new before now ReadFault why more = refl
refused-at_fault meaning old new before now NoMemory why more = absurd (omega (arith, why, more))

pub replay_at_fault : (form : Form) (old new : Option (List ℕ)) (before now : ℕ) (w w' : Option (List ℕ)) (f f' : ℕ) (done : Done) → EndsReplay form old new before now w w' f f' done
    → before < now → done.status ≡ 4
replay_at_fault form old new before now w w' f f' done (inl made) more = absurd (omega (arith, made.read.kept, more))
replay_at_fault form old new before now w w' f f' done (inr refused) more =
    refused.status ∙ refused-at_fault script_of old new before now refused.refusal refused.cause more

pub replay_report_fault : (form : Form) (old new : Option (List ℕ)) (before now : ℕ) (w w' : Option (List ℕ)) (f f' : ℕ) (done : Done) → EndsReplay form old new before now w w' f f' done
    → IsSome done.run → f < f' → done.status ≡ 5
replay_report_fault form old new before now w w' f f' done (inl made) some more = report-cut _ _ _ _ _ _ made.reported.status more
replay_report_fault form old new before now w w' f f' done (inr refused) some more = absurd (none-there _ refused.no_run some)

-- A log by itself, of which no run is told.

pub flstore_untold : (old new : Option (List ℕ)) (before now : ℕ) (w w' : Option (List ℕ)) (f f' : ℕ) (done : Done) → EndsFlStore old new before now w w' f f' done
    → (done.run ≡ None) × (done.stages ≡ None)
flstore_untold old new before now w w' f f' done (inl made) = (made.no_run, made.no_stages)
flstore_untold old new before now w w' f f' done (inr refused) = (refused.no_run, refused.no_stages)

pub flstore_kept : (old new : Option (List ℕ)) (before now : ℕ) (w w' : Option (List ℕ)) (f f' : ℕ) (done : Done) → EndsFlStore old new before now w w' f f' done
    → done.status ≡ 0 → (now ≡ before) × (f' ≡ f)
flstore_kept old new before now w w' f f' done (inl made) is = (made.read.kept, report-whole _ _ _ _ _ _ made.status is)
flstore_kept old new before now w w' f f' done (inr refused) is = absurd (not-at w w' f f' done refused (inl is))

pub flstore_at_fault : (old new : Option (List ℕ)) (before now : ℕ) (w w' : Option (List ℕ)) (f f' : ℕ) (done : Done) → EndsFlStore old new before now w w' f f' done
    → before < now → done.status ≡ 4
flstore_at_fault old new before now w w' f f' done (inl made) more = absurd (omega (arith, made.read.kept, more))
flstore_at_fault old new before now w w' f f' done (inr refused) more =
    refused.status ∙ refused-at_fault flscript_of old new before now refused.refusal refused.cause more

-- A generated run.

generated-run-told : (seed : ℕ) (w w' : Option (List ℕ)) (f f' : ℕ) (done : Done) → EndsGenerated seed w w' f f' done → IsSome done.run ↔ IsReportStatus done.status
generated-run-told seed w w' f f' done (inl made) = told-run Summary (generated seed) w w' f f' done made
generated-run-told seed w w' f f' done (inr refused) = untold-run w w' f f' done refused

generated-stages-told : (seed : ℕ) (w w' : Option (List ℕ)) (f f' : ℕ) (done : Done) → EndsGenerated seed w w' f f' done → IsSome done.stages ↔ IsReportStatus done.status
generated-stages-told seed w w' f f' done (inl made) = told-stages Summary (generated seed) w w' f f' done made
generated-stages-told seed w w' f f' done (inr refused) = untold-stages w w' f f' done refused

generated-kept : (seed : ℕ) (w w' : Option (List ℕ)) (f f' : ℕ) (done : Done) → EndsGenerated seed w w' f f' done → done.status ≡ 0 → f' ≡ f
generated-kept seed w w' f f' done (inl made) is = report-whole _ _ _ _ _ _ made.status is
generated-kept seed w w' f f' done (inr refused) is = absurd (not-at w w' f f' done refused (inl is))

-- Whatever was asked.

-- the run of the abstract log is told of such a task
abbrev TellsRun : Option Task → Type 0
TellsRun task = ((form : Form) × (task ≡ Some (Replay form))) ⊎ ((seed : ℕ) × (task ≡ Some (Generate seed)))

-- a run of which a report tells exactly at some statuses, where the task tells one
told-of : (task : Option Task) (P Q : Type 0) → TellsRun task → (P ↔ Q) → P ↔ (TellsRun task × Q)
told-of task P Q tells told = (λ p. (tells, told.0 p), λ both. told.1 both.1)

-- and where it tells none, there is none
untold-of : {X : Type 0} (task : Option Task) (o : Option X) (Q : Type 0) → (TellsRun task → ⊥) → o ≡ None → IsSome o ↔ (TellsRun task × Q)
untold-of task o Q never none = (λ some. absurd (none-there o none some), λ both. absurd (never both.0))

no-task : TellsRun None → ⊥
no-task (inl is) = cc
no-task (inr is) = cc

no-store : TellsRun (Some FlStore) → ⊥
no-store (inl is) = cc
no-store (inr is) = cc

pub run_told : (task : Option Task) (old new : Option (List ℕ)) (before now : ℕ) (w w' : Option (List ℕ)) (f f' : ℕ) (done : Done) → EndsTask task old new before now w w' f f' done
    → IsSome done.run ↔ (TellsRun task × IsReportStatus done.status)
run_told None old new before now w w' f f' done ended = untold-of None done.run _ no-task ended.1.no_run
run_told (Some (Replay form)) old new before now w w' f f' done ended = told-of _ _ _ (inl (form, refl)) (replay_run_told form old new before now w w' f f' done ended)
run_told (Some (Generate seed)) old new before now w w' f f' done ended = told-of _ _ _ (inr (seed, refl)) (generated-run-told seed w w' f f' done ended.1)
run_told (Some FlStore) old new before now w w' f f' done ended = untold-of (Some FlStore) done.run _ no-store (flstore_untold old new before now w w' f f' done ended).0

pub stages_told : (task : Option Task) (old new : Option (List ℕ)) (before now : ℕ) (w w' : Option (List ℕ)) (f f' : ℕ) (done : Done) → EndsTask task old new before now w w' f f' done
    → IsSome done.stages ↔ (TellsRun task × IsReportStatus done.status)
stages_told None old new before now w w' f f' done ended = untold-of None done.stages _ no-task ended.1.no_stages
stages_told (Some (Replay form)) old new before now w w' f f' done ended = told-of _ _ _ (inl (form, refl)) (replay_stages_told form old new before now w w' f f' done ended)
stages_told (Some (Generate seed)) old new before now w w' f f' done ended = told-of _ _ _ (inr (seed, refl)) (generated-stages-told seed w w' f f' done ended.1)
stages_told (Some FlStore) old new before now w w' f f' done ended = untold-of (Some FlStore) done.stages _ no-store (flstore_untold old new before now w w' f f' done ended).1

pub kept : (task : Option Task) (old new : Option (List ℕ)) (before now : ℕ) (w w' : Option (List ℕ)) (f f' : ℕ) (done : Done) → EndsTask task old new before now w w' f f' done
    → done.status ≡ 0 → (now ≡ before) × (f' ≡ f)
kept None old new before now w w' f f' done ended is = absurd (not-at w w' f f' done ended.1 (inl is))
kept (Some (Replay form)) old new before now w w' f f' done ended is = replay_kept form old new before now w w' f f' done ended is
kept (Some (Generate seed)) old new before now w w' f f' done ended is = (ended.0.1, generated-kept seed w w' f f' done ended.1 is)
kept (Some FlStore) old new before now w w' f f' done ended is = flstore_kept old new before now w w' f f' done ended is

pub at_fault : (task : Option Task) (old new : Option (List ℕ)) (before now : ℕ) (w w' : Option (List ℕ)) (f f' : ℕ) (done : Done) → EndsTask task old new before now w w' f f' done
    → before < now → done.status ≡ 4
at_fault None old new before now w w' f f' done ended more = absurd (omega (arith, ended.0.1, more))
at_fault (Some (Replay form)) old new before now w w' f f' done ended more = replay_at_fault form old new before now w w' f f' done ended more
at_fault (Some (Generate seed)) old new before now w w' f f' done ended more = absurd (omega (arith, ended.0.1, more))
at_fault (Some FlStore) old new before now w w' f f' done ended more = flstore_at_fault old new before now w w' f f' done ended more

pub report_fault : (task : Option Task) (old new : Option (List ℕ)) (before now : ℕ) (w w' : Option (List ℕ)) (f f' : ℕ) (done : Done) → EndsTask task old new before now w w' f f' done
    → IsReportStatus done.status → f < f' → done.status ≡ 5
report_fault task old new before now w w' f f' done ended (inl is) more = absurd (omega (arith, (kept task old new before now w w' f f' done ended is).1, more))
report_fault task old new before now w w' f f' done ended (inr is) more = is
