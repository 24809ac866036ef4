use Rattle.std.proofs.Common.{ℕ, ◌-◌, length, subst, arith}
use Rattle.flstore_rounds.proofs.OwnerLemmas.{AreBelowBefore, head_here, head_later}
use Rattle.flstore_rounds.proofs.head.head_of.Goals as goal

pub overflow_sub-result : goal.overflow_sub-result
overflow_sub-result c = (head_here (record { epochs = record { round = c.args.round; list = c.args.epochs.now }; marks = c.args.marks.now }) (record { start = 0; members = 0 }) c.loop-at.at c.first_gap-gap.result c.requires (omega arith) (omega arith) (record { from = c.first_gap-gap.ensures.from; below = c.first_gap-gap.ensures.below; stops = c.first_gap-gap.ensures.stops }) (λ more. c.if-gap-epochs.true) c.loop-at.invariant).some

pub returns-then-gap-epochs-clause-greatest : goal.returns-then-gap-epochs-clause-greatest
returns-then-gap-epochs-clause-greatest c = (head_here (record { epochs = record { round = c.args.round; list = c.args.epochs.now }; marks = c.args.marks.now }) (record { start = 0; members = 0 }) c.loop-at.at c.first_gap-gap.result c.requires (omega arith) (omega arith) (record { from = c.first_gap-gap.ensures.from; below = c.first_gap-gap.ensures.below; stops = c.first_gap-gap.ensures.stops }) (λ more. c.if-gap-epochs.true) c.loop-at.invariant).greatest

pub returns-then-gap-epochs-clause-value : goal.returns-then-gap-epochs-clause-value
returns-then-gap-epochs-clause-value c = (head_here (record { epochs = record { round = c.args.round; list = c.args.epochs.now }; marks = c.args.marks.now }) (record { start = 0; members = 0 }) c.loop-at.at c.first_gap-gap.result c.requires (omega arith) (omega arith) (record { from = c.first_gap-gap.ensures.from; below = c.first_gap-gap.ensures.below; stops = c.first_gap-gap.ensures.stops }) (λ more. c.if-gap-epochs.true) c.loop-at.invariant).value

pub loop-at-preserved : goal.loop-at-preserved
loop-at-preserved c = head_later (record { epochs = record { round = c.args.round; list = c.args.epochs.now }; marks = c.args.marks.now }) (record { start = 0; members = 0 }) c.loop-at.at c.first_gap-gap.result c.requires (omega arith) (omega arith) (record { from = c.first_gap-gap.ensures.from; below = c.first_gap-gap.ensures.below; stops = c.first_gap-gap.ensures.stops }) c.if-gap-epochs.false c.loop-at.invariant

pub overflow_sub-result-2 : goal.overflow_sub-result-2
overflow_sub-result-2 c = (head_here (record { epochs = record { round = c.args.round; list = c.args.epochs.now }; marks = c.args.marks.now }) (record { start = 0; members = 0 }) (length c.args.epochs.now) c.first_gap.result c.requires c.requires.some (omega arith) (record { from = c.first_gap.ensures.from; below = c.first_gap.ensures.below; stops = c.first_gap.ensures.stops }) (λ more. absurd (omega arith)) (subst (λ (n : ℕ). AreBelowBefore (record { epochs = record { round = c.args.round; list = c.args.epochs.now }; marks = c.args.marks.now }) (n - 1)) (omega arith) c.loop-at.invariant)).some

pub returns-clause-greatest : goal.returns-clause-greatest
returns-clause-greatest c = (head_here (record { epochs = record { round = c.args.round; list = c.args.epochs.now }; marks = c.args.marks.now }) (record { start = 0; members = 0 }) (length c.args.epochs.now) c.first_gap.result c.requires c.requires.some (omega arith) (record { from = c.first_gap.ensures.from; below = c.first_gap.ensures.below; stops = c.first_gap.ensures.stops }) (λ more. absurd (omega arith)) (subst (λ (n : ℕ). AreBelowBefore (record { epochs = record { round = c.args.round; list = c.args.epochs.now }; marks = c.args.marks.now }) (n - 1)) (omega arith) c.loop-at.invariant)).greatest

pub returns-clause-value : goal.returns-clause-value
returns-clause-value c = (head_here (record { epochs = record { round = c.args.round; list = c.args.epochs.now }; marks = c.args.marks.now }) (record { start = 0; members = 0 }) (length c.args.epochs.now) c.first_gap.result c.requires c.requires.some (omega arith) (record { from = c.first_gap.ensures.from; below = c.first_gap.ensures.below; stops = c.first_gap.ensures.stops }) (λ more. absurd (omega arith)) (subst (λ (n : ℕ). AreBelowBefore (record { epochs = record { round = c.args.round; list = c.args.epochs.now }; marks = c.args.marks.now }) (n - 1)) (omega arith) c.loop-at.invariant)).value
