use Rattle.std.proofs.Common.{IsTrue}
use Rattle.maintainer.proofs.LawLemmas.{own_true}
use Rattle.maintainer.proofs.laws.own_marks_are_true.Goals as goal

pub returns : goal.returns
returns g c = λ t m placed. own_true t m (λ p. IsTrue (placed p))
