use Rattle.std.proofs.Common.{ap, sym, ◌∙◌, eqb-true, eq-eqb, true≢false, drop, ◌+◌}
use Rattle.causal_deps.specs.Logs.{records_of, record_at}
use Rattle.abstract_step.proofs.Nth.{pass_other, pass_own, is_here}
use Rattle.abstract_step.proofs.names.nth_of.Goals as goal
use Rattle.abstract_step.proofs.names.nth_of.Goals.{then-eq+else-left-eq1, else-eq}

pub returns-then-left-eq1 : goal.returns-then-left-eq1
returns-then-left-eq1 c =
    sym (is_here c.args.log.now c.args.h c.loop-rec.rec-index c.rec-item.result c.rec-item.result c.loop-rec-test.true c.rec-item.is c.loop-rec.left
    (eqb-true c.rec-item.result.host c.args.h (sym c.if-eq.ensures)) c.if-left-eq1.true)
    ∙ c.loop-rec.invariant

pub loop-rec-preserved : goal.loop-rec-preserved
loop-rec-preserved c = elim c.if-eq.branch [
  | then-eq+else-left-eq1 w ↦
      ap (λ n. record_at (records_of c.args.h (drop (c.loop-rec.rec-index + 1) c.args.log.now)) n) (w.left-is ∙ w.saturating_sub-left.ensures)
      ∙ sym (pass_own c.args.log.now c.args.h c.loop-rec.rec-index c.rec-item.result c.rec-item.result c.loop-rec-test.true c.rec-item.is c.loop-rec.left
      (eqb-true c.rec-item.result.host c.args.h (sym w.if-eq.ensures)) w.if-left-eq1.false)
      ∙ c.loop-rec.invariant
  | else-eq w ↦
      ap (λ n. record_at (records_of c.args.h (drop (c.loop-rec.rec-index + 1) c.args.log.now)) n) w.left-is
      ∙ sym (pass_other c.args.log.now c.args.h c.loop-rec.rec-index c.rec-item.result c.rec-item.result c.loop-rec-test.true c.rec-item.is c.loop-rec.left
      (λ same. true≢false (sym (eq-eqb c.rec-item.result.host c.args.h same) ∙ sym w.if-eq.ensures)))
      ∙ c.loop-rec.invariant
]
