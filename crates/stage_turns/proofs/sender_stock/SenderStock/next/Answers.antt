use Rattle.std.proofs.Common.{◌%◌, ltb, ap, sym, ◌∙◌, arith}
use Rattle.std.specs.Option.{option_copied}
use Rattle.stage_turns.proofs.StockLemmas.{nearest_with, nearest_without, nearest_at_end}
use Rattle.stage_turns.proofs.sender_stock.SenderStock.next.Goals as goal
use Rattle.stage_turns.proofs.sender_stock.SenderStock.next.Goals.{then-number-self, else-number-self}

pub loop-maintainer-preserved : goal.loop-maintainer-preserved
loop-maintainer-preserved c = elim c.if-number-self.branch [
  | then-number-self w ↦
      nearest_with (λ x. ltb c.args.lid x.lid) _ _ c.loop-maintainer.maintainer-index _ c.maintainer-item.result _ _ (option_copied w.next_after.result) (omega (arith, c.loop-maintainer-test.true)) c.maintainer-item.is
      (ap (λ x. x % c.args.self.now.senders) (sym c.number.ensures) ∙ w.if-number-self.true) w.next_after.ensures.rising w.next_after.ensures.value
      (ap option_copied w.nearest-is ∙ w.nearer-nearest.ensures) c.loop-maintainer.invariant
  | else-number-self w ↦
      nearest_without (λ x. ltb c.args.lid x.lid) _ _ c.loop-maintainer.maintainer-index _ c.maintainer-item.result _ _ (omega (arith, c.loop-maintainer-test.true)) c.maintainer-item.is
      (λ same. w.if-number-self.false (ap (λ x. x % c.args.self.now.senders) c.number.ensures ∙ same)) (ap option_copied w.nearest-is) c.loop-maintainer.invariant
]

pub returns : goal.returns
returns c = nearest_at_end (λ x. ltb c.args.lid x.lid) _ _ _ _ _ _ c.as_slice-maintainer-items.ensures (omega (arith, c.loop-maintainer-test.false)) c.args.self.now.apart c.loop-maintainer.invariant
