use Rattle.maintainer.proofs.PassLemmas.{seen_learned}
use Rattle.maintainer.proofs.maintainer.Maintainer.learn.Goals as goal

pub invariant_of-self : goal.invariant_of-self
invariant_of-self g c = (
  seen_learned _ _ _ _ _ _ c.self.view_is _ _ _ c.take_longer.result c.requires.known c.requires.settled c.take_longer.ensures.ok c.take_longer.ensures.err c.self.invariant.0,
  c.self.invariant.1,
  c.self.invariant.2,
)
