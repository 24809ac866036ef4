use Rattle.std.proofs.Common.{ℕ, min, ap, ◌∙◌, arith}
use Rattle.flstore_rounds.proofs.OwnerLemmas.{gap_next}
use Rattle.flstore_rounds.proofs.head.first_gap.Goals as goal

pub loop-m-preserved : goal.loop-m-preserved
loop-m-preserved c = gap_next c.args.round c.args.epoch c.args.marks.now c.loop-m.m c.loop-m.gap c.max-from.result c.wait.result c.min-gap.result (omega arith) (omega arith) c.max-from.ensures c.wait.ensures.own c.wait.ensures.least (c.min-gap.ensures ∙ ap (λ (n : ℕ). min c.loop-m.gap n) c.saturating_add.ensures) c.loop-m.invariant
