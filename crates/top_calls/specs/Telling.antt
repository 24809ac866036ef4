-- What is told of a script before it is written.
use Rattle.std.specs.Prelude.{◌≡◌, List, ℕ, Option}
use Rattle.abstract_log.specs.declared.script.Script.{Script}
use Rattle.script_text.specs.Meaning.{script_of}
use Rattle.flstore_service.specs.declared.script.FlScript.{FlScript}
use Rattle.flstore_service.specs.Fits.{FitsFlScript}
use Rattle.flstore_service.specs.Meaning.{script_of as flscript_of}
use Rattle.flstore_service.specs.Running.{run_of}
use Rattle.flstore_service.specs.Text.{run_text}
use Rattle.command_line.specs.declared.task.Form.{Form}
use Rattle.top_calls.specs.declared.replaying.ReportedRun.{ReportedRun}
use Rattle.top_calls.specs.Ending.{IsRunOf, WasRead, text_of}

-- The script was replayed, and this is the report of its run in this form.
pub record IsReportedRun (form : Form) (script : Script) (told : ReportedRun) : Type 0 where
  pub run : IsRunOf script told.run told.stages
  pub text : told.text.items ≡ text_of form told.run told.stages

-- It is so of the script that the source had left.
pub record IsReportedRunOfSource (form : Form) (old new : Option (List ℕ)) (before now : ℕ) (told : ReportedRun) : Type 0 where
  pub script : Script
  pub read : WasRead script_of old new before now script
  pub report : IsReportedRun form script told

-- The source had the script of a log by itself, and this is the text of its run.
pub record IsStoredOfSource (old new : Option (List ℕ)) (before now : ℕ) (text : List ℕ) : Type 0 where
  pub script : FlScript
  pub read : WasRead flscript_of old new before now script
  pub fits : FitsFlScript script
  pub report : text ≡ run_text (run_of script)
