use Rattle.std.proofs.Common.{rules}
use Rattle.head_gossip.proofs.MarkLemmas.{owned_is_true}
use Rattle.head_gossip.proofs.vector.Vector.own.Goals as goal

pub returns-clause-truth : goal.returns-clause-truth
returns-clause-truth c = λ t placed. owned_is_true t placed c.args.self.now _ c.args.epochs.now c.args.m c.args.mark (search rules)
