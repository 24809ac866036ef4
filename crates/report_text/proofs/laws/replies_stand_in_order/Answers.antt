-- What the check asks of `replies_stand_in_order` beyond what it finds by itself.
use Rattle.report_text.proofs.OrderLemmas.{in_order}
use Rattle.report_text.proofs.laws.replies_stand_in_order.Goals as goal

pub returns : goal.returns
returns c = in_order
