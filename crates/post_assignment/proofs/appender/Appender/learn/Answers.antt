use Rattle.post_assignment.proofs.AppendLemmas.{settled_inside}
use Rattle.post_assignment.proofs.appender.Appender.learn.Goals as goal

pub learn-requires-clause-settled : goal.learn-requires-clause-settled
learn-requires-clause-settled g c = settled_inside c.self.inside.maintainer c.self.inside.waiting.waiting c.args.self.now c.args.epochs.now c.self.view_is c.requires.settled
