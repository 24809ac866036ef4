-- What the check asks of `put_flushed` beyond what it finds by itself.
use Rattle.report_text.specs.Lines.{with_space}
use Rattle.report_text.specs.Turns.{flush_words}
use Rattle.report_text.proofs.LineLemmas.{added}
use Rattle.report_text.proofs.turns.put_flushed.Goals as goal

pub loop-item-preserved : goal.loop-item-preserved
loop-item-preserved c = added with_space flush_words _ _ _ _ _ _ c.loop-item.invariant c.in_ok-put_flush.ensures c.loop-item-test.true c.item-item.is
