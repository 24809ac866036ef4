-- What the check asks of `read_name` beyond what it finds by itself.
use Rattle.script_text.proofs.WordLemmas.{name_in-bad}
use Rattle.script_text.proofs.words.read_name.Goals as goal

pub returns-in-Err-Byte : goal.returns-in-Err-Byte
returns-in-Err-Byte c =
    let bad = (c.in-Err-Byte.ensures.byte c.in-Err-Byte.field-0-0).0 (cc) in
    name_in-bad c.args.word.now c.in-Err-Byte.field-0-0 bad.1
