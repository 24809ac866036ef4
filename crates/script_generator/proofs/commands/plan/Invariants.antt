-- The loops of `plan`: what holds at each turn, and why they end.
use Rattle.std.proofs.Common.{◌≡◌, ◌+◌}
use Rattle.script_generator.specs.Draws.{many}
use Rattle.script_generator.specs.Generated.{command}
use Rattle.script_generator.proofs.commands.plan.Given as goal

-- the commands so far
abbrev pub invariant-loop-before : goal.invariant-loop-before
invariant-loop-before l = (l.commands, l.draws) ≡ many (λ n. command l.s (n + 1)) l.before l.initial.draws
