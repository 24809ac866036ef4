use Rattle.std.proofs.Common.{◌-◌}
use Rattle.flstore_rounds.proofs.OwnerLemmas.{OwnsNoneBefore}
use Rattle.flstore_rounds.proofs.turns.next_own_by.Given as goal

abbrev pub invariant-loop-at : goal.invariant-loop-at
invariant-loop-at l = OwnsNoneBefore (record { round = l.round; list = l.epochs }) l.m l.p (l.at - 1)
