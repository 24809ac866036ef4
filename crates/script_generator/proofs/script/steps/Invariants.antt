-- The loops of `steps`: what holds at each turn, and why they end.
use Rattle.std.proofs.Common.{◌≡◌}
use Rattle.script_generator.specs.Draws.{many}
use Rattle.script_generator.specs.Generated.{step}
use Rattle.script_generator.proofs.script.steps.Given as goal

-- the steps so far
abbrev pub invariant-loop-step : goal.invariant-loop-step
invariant-loop-step l = (l.steps, l.draws) ≡ many (λ _. step) l._step l.initial.draws
