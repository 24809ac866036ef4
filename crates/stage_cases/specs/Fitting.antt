-- Scripts that are in their ranges, with steps that a script may have: to these the laws of schedules apply.
use Rattle.std.specs.Prelude.{All}
use Rattle.abstract_log.specs.declared.script.Script.{Script}
use Rattle.abstract_log.specs.Fits.{FitsScript}
use Rattle.abstract_log.specs.Turns.{IsStep}

pub record IsInRange (script : Script) : Type 0 where
  pub fits : FitsScript script
  pub steps : All (IsStep script.workload) script.steps
