use Rattle.std.proofs.Common.{◌%◌, ap, sym, ◌∙◌, arith}
use Rattle.std.specs.Option.{option_copied}
use Rattle.sender_receiver.specs.Choosing.{is_new_above}
use Rattle.stage_turns.proofs.StockLemmas.{first_of, nearest_with, nearest_without, nearest_at_end}
use Rattle.stage_turns.proofs.sender_stock.SenderStock.next_news.Goals as goal
use Rattle.stage_turns.proofs.sender_stock.SenderStock.next_news.Goals.{then-number-self, else-number-self}

pub loop-maintainer-preserved : goal.loop-maintainer-preserved
loop-maintainer-preserved c = elim c.if-number-self.branch [
  | then-number-self w ↦
      nearest_with (is_new_above c.args.host c.args.known c.args.lid) _ _ c.loop-maintainer.maintainer-index _ c.maintainer-item.result _ _ (option_copied w.first_news_above-news.result) (omega (arith, c.loop-maintainer-test.true)) c.maintainer-item.is
      (ap (λ x. x % c.args.self.now.senders) (sym c.number.ensures) ∙ w.if-number-self.true) w.entries.ensures.rising (w.first_news_above-news.ensures ∙ ap (first_of (is_new_above c.args.host c.args.known c.args.lid)) w.entries.ensures.value)
      (ap option_copied w.nearest-is ∙ w.nearer-nearest.ensures) c.loop-maintainer.invariant
  | else-number-self w ↦
      nearest_without (is_new_above c.args.host c.args.known c.args.lid) _ _ c.loop-maintainer.maintainer-index _ c.maintainer-item.result _ _ (omega (arith, c.loop-maintainer-test.true)) c.maintainer-item.is
      (λ same. w.if-number-self.false (ap (λ x. x % c.args.self.now.senders) c.number.ensures ∙ same)) (ap option_copied w.nearest-is) c.loop-maintainer.invariant
]

pub returns : goal.returns
returns c = nearest_at_end (is_new_above c.args.host c.args.known c.args.lid) _ _ _ _ _ _ c.as_slice-maintainer-items.ensures (omega (arith, c.loop-maintainer-test.false)) c.args.self.now.apart c.loop-maintainer.invariant
