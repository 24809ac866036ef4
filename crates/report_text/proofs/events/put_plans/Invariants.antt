-- The loops of `put_plans`: what holds at each turn, and why they end.
use Rattle.std.proofs.Common.{◌≡◌, ◌++◌, take}
use Rattle.std.specs.List.{flat_map}
use Rattle.report_text.specs.Lines.{line_text}
use Rattle.report_text.specs.Report.{plan_lines}
use Rattle.report_text.proofs.events.put_plans.Given as goal

abbrev pub invariant-loop-plan : goal.invariant-loop-plan
invariant-loop-plan l = l.text ≡ l.initial.text ++ flat_map line_text (flat_map plan_lines (take l.plan-index l.plan-items))
