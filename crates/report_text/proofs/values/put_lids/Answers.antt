-- What the check asks of `put_lids` beyond what it finds by itself.
use Rattle.std.specs.Fmt.{decimal}
use Rattle.report_text.specs.Lines.{with_space}
use Rattle.report_text.proofs.LineLemmas.{added_read}
use Rattle.report_text.proofs.values.put_lids.Goals as goal

pub loop-lid-preserved : goal.loop-lid-preserved
loop-lid-preserved c = added_read with_space decimal _ _ _ _ _ 0 c.loop-lid.invariant c.in_ok-number.ensures c.loop-lid-test.true
