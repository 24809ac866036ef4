use Rattle.std.proofs.Common.{IsTrue}
use Rattle.flstore_rounds.proofs.HeadLemmas.{single_true}
use Rattle.flstore_rounds.proofs.laws.single_marks_are_true.Goals as goal

pub returns : goal.returns
returns c = λ t e placed. single_true t e (λ p. IsTrue (placed p))
