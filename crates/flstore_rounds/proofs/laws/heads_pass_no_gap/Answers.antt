use Rattle.std.proofs.Common.{IsTrue}
use Rattle.flstore_rounds.proofs.HeadLemmas.{head_filled}
use Rattle.flstore_rounds.proofs.laws.heads_pass_no_gap.Goals as goal

pub returns : goal.returns
returns c = λ t placed. head_filled t (λ p. IsTrue (placed p))
