use Rattle.std.proofs.Common.{IsTrue}
use Rattle.flstore_rounds.proofs.HeadLemmas.{with_own_grows}
use Rattle.flstore_rounds.proofs.laws.owning_lowers_no_head.Goals as goal

pub returns : goal.returns
returns c = λ t e placed. with_own_grows t e (λ p. IsTrue (placed p))
