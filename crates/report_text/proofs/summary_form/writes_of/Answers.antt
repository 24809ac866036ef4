-- What the check asks of `writes_of` beyond what it finds by itself.
use Rattle.std.proofs.Common.{ap, arith, ◌∙◌}
use Rattle.std.specs.List.{count_by}
use Rattle.abstract_log.specs.Commands.{is_write}
use Rattle.report_text.proofs.SummaryLemmas.{writes_more}
use Rattle.report_text.proofs.summary_form.writes_of.Goals as goal

pub overflow_add-count : goal.overflow_add-count
overflow_add-count c =
    let told = c.writes_in.ensures ∙ ap (count_by is_write) c.as_slice.ensures in
    let more = writes_more _ _ _ _ _ c.as_slice-plan-items.ensures c.requires c.loop-plan.invariant c.loop-plan-test.true c.plan-item.is in
    omega (arith, more.sum, more.small, told)

pub loop-plan-preserved : goal.loop-plan-preserved
loop-plan-preserved c =
    let told = c.writes_in.ensures ∙ ap (count_by is_write) c.as_slice.ensures in
    let more = writes_more _ _ _ _ _ c.as_slice-plan-items.ensures c.requires c.loop-plan.invariant c.loop-plan-test.true c.plan-item.is in
    omega (arith, more.sum, told)
