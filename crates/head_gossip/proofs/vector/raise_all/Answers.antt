use Rattle.std.proofs.Common.{arith}
use Rattle.head_gossip.proofs.MarkLemmas.{all_raised}
use Rattle.head_gossip.proofs.vector.raise_all.Goals as goal

pub returns : goal.returns
returns c = all_raised c.loop-at.at c.args.marks.now c.args.told.now c.loop-at.marks (omega arith) (omega arith) c.loop-at.invariant
