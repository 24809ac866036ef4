use Rattle.std.proofs.Common.{ℕ, ◌-◌, length, subst, arith}
use Rattle.flstore_rounds.proofs.OwnerLemmas.{OwnsNoneBefore, last_read, next_here, next_later, next_as_stranger}
use Rattle.flstore_rounds.proofs.turns.next_own_by.Goals.{then-m-epoch+else-own-end, else-m-epoch}
use Rattle.flstore_rounds.proofs.turns.next_own_by.Goals as goal

pub returns-then-own-end-clause-least : goal.returns-then-own-end-clause-least
returns-then-own-end-clause-least c = next_here (record { round = c.args.round; list = c.args.epochs.now }) (record { start = 0; members = 0 }) c.args.m c.args.p c.loop-at.at c.max-from.result c.wait.result c.requires.rounds (omega arith) (omega arith) c.max-from.ensures c.wait.ensures.own c.wait.ensures.least (λ more. c.if-own-end.true) c.loop-at.invariant

pub loop-at-preserved : goal.loop-at-preserved
loop-at-preserved c = elim c.if-m-epoch.branch [
  | then-m-epoch+else-own-end w ↦ next_later (record { round = c.args.round; list = c.args.epochs.now }) (record { start = 0; members = 0 }) c.args.m c.args.p c.loop-at.at w.max-from.result w.wait.result c.requires.rounds (omega arith) (omega arith) w.max-from.ensures w.wait.ensures.own w.wait.ensures.least w.if-own-end.false c.loop-at.invariant
  | else-m-epoch w ↦ next_as_stranger (record { round = c.args.round; list = c.args.epochs.now }) (record { start = 0; members = 0 }) c.args.m c.args.p c.loop-at.at c.requires.rounds (omega arith) (omega arith) w.if-m-epoch.false c.loop-at.invariant
]

pub wait-requires-2-clause-members : goal.wait-requires-2-clause-members
wait-requires-2-clause-members c = last_read (record { round = c.args.round; list = c.args.epochs.now }) (record { start = 0; members = 0 }) c.args.m c.requires.rounds c.requires.member

pub returns-clause-least : goal.returns-clause-least
returns-clause-least c = next_here (record { round = c.args.round; list = c.args.epochs.now }) (record { start = 0; members = 0 }) c.args.m c.args.p (length c.args.epochs.now) c.max-from-2.result c.wait-2.result c.requires.rounds c.requires.rounds.some (omega arith) c.max-from-2.ensures c.wait-2.ensures.own c.wait-2.ensures.least (λ more. absurd (omega arith)) (subst (λ (n : ℕ). OwnsNoneBefore (record { round = c.args.round; list = c.args.epochs.now }) c.args.m c.args.p (n - 1)) (omega arith) c.loop-at.invariant)
