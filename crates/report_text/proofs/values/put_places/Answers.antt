-- What the check asks of `put_places` beyond what it finds by itself.
use Rattle.report_text.specs.Lines.{with_space}
use Rattle.report_text.specs.Values.{place_words}
use Rattle.report_text.proofs.LineLemmas.{added}
use Rattle.report_text.proofs.values.put_places.Goals as goal

pub loop-place-preserved : goal.loop-place-preserved
loop-place-preserved c = added with_space place_words _ _ _ _ _ _ c.loop-place.invariant c.in_ok-put_place.ensures c.loop-place-test.true c.place-item.is
