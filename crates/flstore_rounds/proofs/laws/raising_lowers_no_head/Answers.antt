use Rattle.flstore_rounds.proofs.HeadLemmas.{raised_grows}
use Rattle.flstore_rounds.proofs.laws.raising_lowers_no_head.Goals as goal

pub returns : goal.returns
returns c = raised_grows
