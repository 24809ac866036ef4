-- What the check asks of `body` beyond what it finds by itself.
use Rattle.std.proofs.Common.{ap}
use Rattle.std.specs.Prelude.{Err}
use Rattle.cz_base.specs.Text.{first_bad, is_body_byte}
use Rattle.script_generator.proofs.texts.body.Goals as goal

-- the text has no bad byte
pub unreachable-requires-in-Err-Byte : goal.unreachable-requires-in-Err-Byte
unreachable-requires-in-Err-Byte c =
    let bad = ((c.in-Err-Byte.ensures.byte c.in-Err-Byte.field-0-0).0 (ap Err c.in-Err-Byte.field-0-is)).1 in
    let same = ap (first_bad is_body_byte) c.as_bytes.ensures.value in
    let good = c.requires.allowed in
    cc
