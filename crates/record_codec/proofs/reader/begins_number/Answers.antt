use Rattle.record_codec.proofs.Numbers.{tested_both, tested_low}
use Rattle.std.proofs.Common.{arith}
use Rattle.std.proofs.lemmas.Bool.{leb-true}
use Rattle.record_codec.proofs.reader.begins_number.Goals as goal

pub returns-then-low-unknown : goal.returns-then-low-unknown
returns-then-low-unknown c = tested_both _ _ _ _ _ _ c.read_uint-number.ensures c.if-low-unknown.true

pub returns-else-low-unknown : goal.returns-else-low-unknown
returns-else-low-unknown c = (
  λ h. let le = leb-true _ _ h in absurd (omega arith),
  λ h. absurd (tested_low _ _ _ _ _ _ c.read_uint-number.ensures c.if-low-unknown.false h),
)
