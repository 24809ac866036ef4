use Rattle.flstore_service.proofs.ServedLemmas.{IsRunning}
use Rattle.flstore_service.proofs.run.take_steps.Given as goal

-- the steps so far were taken
abbrev pub invariant-loop-step : goal.invariant-loop-step
invariant-loop-step l = IsRunning l.initial.service l.steps l.step-index l.service l.lines
