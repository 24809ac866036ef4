-- What the check asks of `full` beyond what it finds by itself.
use Rattle.std.proofs.Common.{◌∙◌}
use Rattle.std.specs.Option.{option_copied}
use Rattle.report_text.proofs.LeftLemmas.{few_left}
use Rattle.report_text.proofs.Whole.{full_told}
use Rattle.report_text.proofs.report.full.Goals as goal

pub put_datacentres-requires : goal.put_datacentres-requires
put_datacentres-requires c = few_left c.args.run.now.workload c.args.run.now.events c.args.left.now c.requires.limits.workload c.requires.left

pub returns : goal.returns
returns c = c.into_bytes.ensures ∙ full_told c.args.run.now (option_copied c.args.stages) c.args.left.now _ _ _ _ _ _ _ _ _ c.requires.left c.len.ensures c.new-text.ensures
    c.in_ok-put_first.ensures c.in_ok-put_workload.ensures c.in_ok-put_turns.ensures c.in_ok-put_trace.ensures c.in_ok-put_datacentres.ensures
    c.in_ok-put_all_replies.ensures c.in_ok-put.ensures
