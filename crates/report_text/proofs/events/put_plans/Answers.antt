-- What the check asks of `put_plans` beyond what it finds by itself.
use Rattle.report_text.specs.Lines.{line_text}
use Rattle.report_text.specs.Report.{plan_lines}
use Rattle.report_text.proofs.LineLemmas.{added}
use Rattle.report_text.proofs.events.put_plans.Goals as goal

pub loop-plan-preserved : goal.loop-plan-preserved
loop-plan-preserved c = added line_text plan_lines _ _ _ _ _ _ c.loop-plan.invariant c.in_ok-put_plan.ensures c.loop-plan-test.true c.plan-item.is
