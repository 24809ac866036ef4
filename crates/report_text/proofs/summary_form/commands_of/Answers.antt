-- What the check asks of `commands_of` beyond what it finds by itself.
use Rattle.std.proofs.Common.{arith}
use Rattle.report_text.proofs.SummaryLemmas.{commands_more}
use Rattle.report_text.proofs.summary_form.commands_of.Goals as goal

pub overflow_add-count : goal.overflow_add-count
overflow_add-count c =
    let more = commands_more _ _ _ _ _ c.as_slice-plan-items.ensures c.requires c.loop-plan.invariant c.loop-plan-test.true c.plan-item.is in
    omega (arith, more.sum, more.small, c.len.ensures)

pub loop-plan-preserved : goal.loop-plan-preserved
loop-plan-preserved c =
    let more = commands_more _ _ _ _ _ c.as_slice-plan-items.ensures c.requires c.loop-plan.invariant c.loop-plan-test.true c.plan-item.is in
    omega (arith, more.sum, c.len.ensures)
