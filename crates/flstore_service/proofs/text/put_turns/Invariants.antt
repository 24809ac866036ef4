use Rattle.std.proofs.Common.{◌≡◌, ◌++◌, take}
use Rattle.flstore_service.specs.Text.{turn_lines}
use Rattle.flstore_service.proofs.text.put_turns.Given as goal

-- those so far are written
abbrev pub invariant-loop-line : goal.invariant-loop-line
invariant-loop-line l = l.text ≡ l.initial.text ++ turn_lines (take l.line-index l.lines)
