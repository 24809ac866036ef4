use Rattle.std.proofs.Common.{IsTrue}
use Rattle.flstore_rounds.proofs.HeadLemmas.{joined_grows}
use Rattle.flstore_rounds.proofs.laws.joining_lowers_no_head.Goals as goal

pub returns : goal.returns
returns c = λ t placed. joined_grows t (λ p. IsTrue (placed p))
