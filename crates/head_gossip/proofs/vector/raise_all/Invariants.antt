use Rattle.causal_deps.proofs.CountsLemmas.{IsMergedBelow}
use Rattle.head_gossip.proofs.vector.raise_all.Given as goal

abbrev pub invariant-loop-at : goal.invariant-loop-at
invariant-loop-at l = IsMergedBelow l.at l.initial.marks l.told l.marks
