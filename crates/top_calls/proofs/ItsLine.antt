-- Which line is told at which status.
use Rattle.std.proofs.Common.{◌≡◌, ◌⊎◌, inl, inr, ℕ, List, refl, sym, subst}
use Rattle.std.specs.Prelude.{Option, Some, None, Result}
use Rattle.script_text.specs.Meaning.{script_of}
use Rattle.script_text.specs.declared.fault.ScriptFault.{ScriptFault}
use Rattle.flstore_service.specs.Meaning.{script_of as flscript_of}
use Rattle.command_line.specs.declared.task.Form.{Form}
use Rattle.command_line.specs.declared.task.Task.{Task}
use Rattle.command_line.specs.declared.task.Task.TheVariants.{Replay, Generate, FlStore}
use Rattle.top_calls.specs.declared.done.Done.{Done}
use Rattle.top_calls.specs.declared.done.Refusal.{Refusal}
use Rattle.top_calls.specs.declared.done.Refusal.TheVariants.{Words, Script as BadScript, TooLong, ReadFault, NoMemory}
use Rattle.top_calls.specs.Ending.{EndsFlStore, EndsGenerated, EndsReplay, EndsTask, IsBadLine, IsRefused, IsRefusedFor, IsReportStatus, TellsItsLine, WritesFront, refusal_line, status_of}
use Rattle.top_calls.proofs.Counts.{report_status}

-- At the status of a report there is none.

no-refusal : (told : List ℕ → Type 0) (status : ℕ) → IsReportStatus status → TellsItsLine told status
no-refusal told status (inl is) = record { words = λ at. cc; script = λ at. cc; read_fault = λ at. cc; no_memory = λ at. cc }
no-refusal told status (inr is) = record { words = λ at. cc; script = λ at. cc; read_fault = λ at. cc; no_memory = λ at. cc }

-- At that of a refusal it is the refusal's.

of-refusal : (told : List ℕ → Type 0) (refusal : Refusal) → told (refusal_line refusal) → ((text : List ℕ) → refusal ≡ BadScript text → IsBadLine text) → TellsItsLine told (status_of refusal)
of-refusal told Words line bad = record { words = λ _. line; script = λ at. cc; read_fault = λ at. cc; no_memory = λ at. cc }
of-refusal told (BadScript text) line bad = record { words = λ at. cc; script = λ _. inl (text, bad text refl, line); read_fault = λ at. cc; no_memory = λ at. cc }
of-refusal told TooLong line bad = record { words = λ at. cc; script = λ _. inr line; read_fault = λ at. cc; no_memory = λ at. cc }
of-refusal told ReadFault line bad = record { words = λ at. cc; script = λ at. cc; read_fault = λ _. line; no_memory = λ at. cc }
of-refusal told NoMemory line bad = record { words = λ at. cc; script = λ at. cc; read_fault = λ at. cc; no_memory = λ _. line }

refused-line : (such : Refusal → Type 0) (w w' : Option (List ℕ)) (f f' : ℕ) (done : Done) → IsRefused such w w' f f' done → ((text : List ℕ) → such (BadScript text) → IsBadLine text)
    → TellsItsLine (WritesFront w w' f f') done.status
refused-line such w w' f f' done refused bad =
    let told : List ℕ → Type 0 = WritesFront w w' f f' in
    let tells : ℕ → Type 0 = TellsItsLine told in
    subst tells (sym refused.status) (of-refusal told refused.refusal refused.line (λ text is. bad text (subst such is refused.cause)))

bad-line : {A : Type 0} (meaning : List (List ℕ) → Result A ScriptFault) (old new : Option (List ℕ)) (before now : ℕ) (text : List ℕ) → IsRefusedFor meaning old new before now (BadScript text) → IsBadLine text
bad-line meaning old new before now text why = record { line = why.0.line; cause = why.0.cause; is = why.0.told }

-- How each call ends.

pub replay_line : (form : Form) (old new : Option (List ℕ)) (before now : ℕ) (w w' : Option (List ℕ)) (f f' : ℕ) (done : Done) → EndsReplay form old new before now w w' f f' done
    → TellsItsLine (WritesFront w w' f f') done.status
replay_line form old new before now w w' f f' done (inl made) = no-refusal _ _ (report_status _ _ _ _ _ _ made.reported.status)
replay_line form old new before now w w' f f' done (inr refused) = refused-line _ w w' f f' done refused (bad-line script_of old new before now)

pub flstore_line : (old new : Option (List ℕ)) (before now : ℕ) (w w' : Option (List ℕ)) (f f' : ℕ) (done : Done) → EndsFlStore old new before now w w' f f' done
    → TellsItsLine (WritesFront w w' f f') done.status
flstore_line old new before now w w' f f' done (inl made) = no-refusal _ _ (report_status _ _ _ _ _ _ made.status)
flstore_line old new before now w w' f f' done (inr refused) = refused-line _ w w' f f' done refused (bad-line flscript_of old new before now)

no-script : (text : List ℕ) → BadScript text ≡ NoMemory → IsBadLine text
no-script text is = cc

no-script-either : (text : List ℕ) → (BadScript text ≡ Words) ⊎ (BadScript text ≡ NoMemory) → IsBadLine text
no-script-either text (inl is) = cc
no-script-either text (inr is) = cc

generated-line : (seed : ℕ) (w w' : Option (List ℕ)) (f f' : ℕ) (done : Done) → EndsGenerated seed w w' f f' done → TellsItsLine (WritesFront w w' f f') done.status
generated-line seed w w' f f' done (inl made) = no-refusal _ _ (report_status _ _ _ _ _ _ made.status)
generated-line seed w w' f f' done (inr refused) = refused-line _ w w' f f' done refused no-script

pub its_line : (task : Option Task) (old new : Option (List ℕ)) (before now : ℕ) (w w' : Option (List ℕ)) (f f' : ℕ) (done : Done) → EndsTask task old new before now w w' f f' done
    → TellsItsLine (WritesFront w w' f f') done.status
its_line None old new before now w w' f f' done ended = refused-line _ w w' f f' done ended.1 no-script-either
its_line (Some (Replay form)) old new before now w w' f f' done ended = replay_line form old new before now w w' f f' done ended
its_line (Some (Generate seed)) old new before now w w' f f' done ended = generated-line seed w w' f f' done ended.1
its_line (Some FlStore) old new before now w w' f f' done ended = flstore_line old new before now w w' f f' done ended
