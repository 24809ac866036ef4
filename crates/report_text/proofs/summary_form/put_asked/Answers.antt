-- What the check asks of `put_asked` beyond what it finds by itself.
use Rattle.report_text.proofs.SummaryLemmas.{asked_told}
use Rattle.report_text.proofs.summary_form.put_asked.Goals as goal

pub returns : goal.returns
returns c = asked_told _ c.args.load.now _ _ _ _ _ _ _ _ c.len.ensures c.commands_of.ensures c.writes_of.ensures c.in_ok-put_fact.ensures c.in_ok-put_fact-2.ensures c.in_ok-put_fact-3.ensures c.put_fact-4.ensures
