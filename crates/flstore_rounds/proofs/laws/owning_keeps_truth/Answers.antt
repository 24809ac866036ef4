use Rattle.std.proofs.Common.{IsTrue}
use Rattle.flstore_rounds.proofs.HeadLemmas.{single_true, with_own_true}
use Rattle.flstore_rounds.proofs.laws.owning_keeps_truth.Goals as goal

pub returns : goal.returns
returns c = λ t e placed v m mark h own. with_own_true t e (λ p. IsTrue (placed p)) v m mark h (single_true t e (λ p. IsTrue (placed p)) m mark own)
