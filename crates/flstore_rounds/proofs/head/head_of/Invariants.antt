use Rattle.std.proofs.Common.{◌-◌}
use Rattle.flstore_rounds.proofs.OwnerLemmas.{AreBelowBefore}
use Rattle.flstore_rounds.proofs.head.head_of.Given as goal

abbrev pub invariant-loop-at : goal.invariant-loop-at
invariant-loop-at l = AreBelowBefore (record { epochs = record { round = l.round; list = l.epochs }; marks = l.marks }) (l.at - 1)
