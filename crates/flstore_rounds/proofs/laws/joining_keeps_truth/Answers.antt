use Rattle.std.proofs.Common.{IsTrue}
use Rattle.flstore_rounds.proofs.HeadLemmas.{joined_true}
use Rattle.flstore_rounds.proofs.laws.joining_keeps_truth.Goals as goal

pub returns : goal.returns
returns c = λ t placed. joined_true t (λ p. IsTrue (placed p))
