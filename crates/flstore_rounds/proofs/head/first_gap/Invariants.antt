use Rattle.flstore_rounds.proofs.OwnerLemmas.{IsGap}
use Rattle.flstore_rounds.proofs.head.first_gap.Given as goal

abbrev pub invariant-loop-m : goal.invariant-loop-m
invariant-loop-m l = IsGap l.round l.epoch l.marks l.m l.gap
