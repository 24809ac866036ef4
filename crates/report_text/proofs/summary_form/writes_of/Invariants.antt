-- The loops of `writes_of`: what holds at each turn, and why they end.
use Rattle.std.proofs.Common.{◌≡◌, take}
use Rattle.report_text.specs.Summary.{writes_of}
use Rattle.report_text.proofs.summary_form.writes_of.Given as goal

abbrev pub invariant-loop-plan : goal.invariant-loop-plan
invariant-loop-plan l = l.count ≡ writes_of (take l.plan-index l.plan-items)
