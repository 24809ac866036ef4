-- What the check asks of `json` beyond what it finds by itself.
use Rattle.report_text.proofs.JsonLemmas.{json_told}
use Rattle.report_text.proofs.json_form.json.Goals as goal

pub returns : goal.returns
returns c = json_told c.args.run.now _ _ _ c.in_ok-whole.ensures c.in_ok-line.ensures c.in_ok-push.ensures.items
