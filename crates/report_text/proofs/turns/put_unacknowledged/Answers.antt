-- What the check asks of `put_unacknowledged` beyond what it finds by itself.
use Rattle.std.proofs.Common.{◌≡◌, ◌++◌, OnOk, codes, subst}
use Rattle.report_text.specs.Lines.{spaced}
use Rattle.report_text.specs.Turns.{labelled}
use Rattle.report_text.proofs.turns.put_unacknowledged.Goals as goal

pub returns : goal.returns
returns c =
    subst (λ n. OnOk c.labelled.result (c.labelled.new.self ≡ c.args.text.now ++ spaced (labelled (codes "unacknowledged") n))) c.from.ensures c.labelled.ensures
