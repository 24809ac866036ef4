-- What the check asks of `read_body` beyond what it finds by itself.
use Rattle.std.proofs.Common.{arith}
use Rattle.script_text.proofs.WordLemmas.{body_in-bad_word}
use Rattle.script_text.proofs.words.read_body.Goals as goal

pub returns-in-Err-Byte : goal.returns-in-Err-Byte
returns-in-Err-Byte c =
    let bad = (c.in-Err-Byte.ensures.byte c.in-Err-Byte.field-0-0).0 (cc) in
    body_in-bad_word c.args.word.now c.in-Err-Byte.field-0-0 (omega arith) bad.1
