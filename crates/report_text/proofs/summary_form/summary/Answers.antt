-- What the check asks of `summary` beyond what it finds by itself.
use Rattle.std.proofs.Common.{◌∙◌}
use Rattle.std.specs.Option.{option_copied}
use Rattle.report_text.proofs.SummaryLemmas.{summary_told}
use Rattle.report_text.proofs.summary_form.summary.Goals as goal

pub returns : goal.returns
returns c = c.into_bytes.ensures ∙ summary_told c.args.run.now (option_copied c.args.stages) _ _ _ _ _ _ _ c.requires.limits.workload c.requires.run c.len.ensures c.new-text.ensures
    c.in_ok-put_asked.ensures c.in_ok-put_fact.ensures c.in_ok-put_turn_count.ensures c.in_ok-put_collected.ensures c.in_ok-put.ensures
