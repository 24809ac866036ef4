use Rattle.std.proofs.Common.{rules, arith}
use Rattle.head_gossip.specs.Notes.{pair_of}
use Rattle.head_gossip.proofs.MarkLemmas.{heard_is_true, marks_greater}
use Rattle.head_gossip.proofs.vector.Vector.hear.Goals as goal

pub returns-clause-truth : goal.returns-clause-truth
returns-clause-truth c = λ t placed. heard_is_true t placed c.args.self.now (pair_of c.args.note.now) _ (search rules)

pub invariant_of-self-2 : goal.invariant_of-self-2
invariant_of-self-2 c = marks_greater c.self.inside.marks c.args.note.now.marks c.raise_all.new.marks c.raise_all.ensures (omega arith) c.self.invariant
