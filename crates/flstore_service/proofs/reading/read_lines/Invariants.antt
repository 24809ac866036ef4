-- The loop of `read_lines`: what holds at each turn, and why it ends.
use Rattle.std.proofs.Common.{◌≡◌, length}
use Rattle.script_text.specs.Lines.{lines}
use Rattle.flstore_service.specs.Meaning.{nothing_said, script_from}
use Rattle.flstore_service.proofs.reading.read_lines.Given as goal

-- what is left goes on from what was said so far
abbrev pub invariant-loop-text : goal.invariant-loop-text
invariant-loop-text l = script_from l.progress l.line l.left ≡ script_from nothing_said 1 (lines l.bytes)

abbrev pub decreases-loop-text : goal.decreases-loop-text
decreases-loop-text l = length l.left
