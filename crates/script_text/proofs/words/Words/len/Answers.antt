-- What the check asks of `Words::len` beyond what it finds by itself.
use Rattle.script_text.proofs.WordLemmas.{length-words_left}
use Rattle.script_text.proofs.words.Words.len.Goals as goal

pub returns-else-self : goal.returns-else-self
returns-else-self c =
    let many = length-words_left c.self.inside.ended c.self.inside.rest.now c.if-self.false in
    cc
