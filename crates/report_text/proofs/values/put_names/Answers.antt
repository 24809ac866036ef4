-- What the check asks of `put_names` beyond what it finds by itself.
use Rattle.std.proofs.Common.{ℕ}
use Rattle.report_text.specs.Lines.{with_space}
use Rattle.report_text.specs.Values.{name_word}
use Rattle.report_text.proofs.LineLemmas.{added_one}
use Rattle.report_text.proofs.values.put_names.Goals as goal

pub loop-name-preserved : goal.loop-name-preserved
loop-name-preserved c = added_one with_space (λ (n : ℕ × ℕ). name_word n.0 n.1) _ _ _ _ _ _ c.loop-name.invariant c.in_ok-put_name.ensures c.loop-name-test.true c.name-item.is
