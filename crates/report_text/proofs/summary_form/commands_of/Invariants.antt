-- The loops of `commands_of`: what holds at each turn, and why they end.
use Rattle.std.proofs.Common.{◌≡◌, take}
use Rattle.abstract_log.specs.Fits.{commands_of}
use Rattle.report_text.proofs.summary_form.commands_of.Given as goal

abbrev pub invariant-loop-plan : goal.invariant-loop-plan
invariant-loop-plan l = l.count ≡ commands_of (take l.plan-index l.plan-items)
