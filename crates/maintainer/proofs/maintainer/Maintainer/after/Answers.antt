use Rattle.maintainer.proofs.AfterLemmas.{next_is_least, none_after}
use Rattle.maintainer.proofs.maintainer.Maintainer.after.Goals as goal

pub returns-in-Some-clause-least : goal.returns-in-Some-clause-least
returns-in-Some-clause-least g c = next_is_least c.args.lid c.args.self.now.entries c.in-Some.slot.now c.next_after.ensures.rising c.in-Some.ensures.value

pub returns-in-None-clause-none : goal.returns-in-None-clause-none
returns-in-None-clause-none g c = λ none. none_after c.args.lid c.args.self.now.entries c.in-None.ensures.value
