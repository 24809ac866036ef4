-- The loops of `put_keys`: what holds at each turn, and why they end.
use Rattle.std.proofs.Common.{◌≡◌, ◌++◌, take}
use Rattle.report_text.specs.Lines.{spaced}
use Rattle.report_text.proofs.values.put_keys.Given as goal

abbrev pub invariant-loop-key : goal.invariant-loop-key
invariant-loop-key l = l.text ≡ l.initial.text ++ spaced (take l.key-index l.key-items)
