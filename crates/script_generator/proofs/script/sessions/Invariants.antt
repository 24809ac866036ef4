-- The loops of `sessions`: what holds at each turn, and why they end.
use Rattle.std.proofs.Common.{◌≡◌}
use Rattle.script_generator.specs.Draws.{many}
use Rattle.script_generator.specs.Generated.{plan}
use Rattle.script_generator.proofs.script.sessions.Given as goal

-- the sessions so far
abbrev pub invariant-loop-s : goal.invariant-loop-s
invariant-loop-s l = (l.sessions, l.draws) ≡ many plan l.s l.initial.draws
