-- The loops of `put_stages`: what holds at each turn, and why they end.
use Rattle.std.proofs.Common.{◌≡◌, ◌++◌, take}
use Rattle.std.specs.List.{flat_map}
use Rattle.report_text.specs.Lines.{line_text}
use Rattle.report_text.specs.Turns.{stage_lines}
use Rattle.report_text.proofs.turns.put_stages.Given as goal

abbrev pub invariant-loop-line : goal.invariant-loop-line
invariant-loop-line l = l.text ≡ l.initial.text ++ flat_map line_text (flat_map (stage_lines l.settling) (take l.line-index l.line-items))
