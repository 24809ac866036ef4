-- What the check asks of `put_items` beyond what it finds by itself.
use Rattle.report_text.specs.Lines.{with_space}
use Rattle.report_text.specs.Report.{found_words}
use Rattle.report_text.proofs.LineLemmas.{added}
use Rattle.report_text.proofs.events.put_items.Goals as goal

pub loop-item-preserved : goal.loop-item-preserved
loop-item-preserved c = added with_space found_words _ _ _ _ _ _ c.loop-item.invariant c.in_ok-put_found.ensures c.loop-item-test.true c.item-item.is
