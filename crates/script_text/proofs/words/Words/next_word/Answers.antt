-- What the check asks of `Words::next_word` beyond what it finds by itself.
use Rattle.std.proofs.Common.{sym}
use Rattle.script_text.proofs.WordLemmas.{words_left-first, words_left-one}
use Rattle.script_text.proofs.words.Words.next_word.Goals as goal

pub returns-in-Some : goal.returns-in-Some
returns-in-Some c =
    let first = words_left-first c.self.inside.ended c.self.inside.rest.now c.in-Some.at c.if-self.false (sym c.in-Some.ensures) in
    cc

pub returns-in-None : goal.returns-in-None
returns-in-None c =
    let one = words_left-one c.self.inside.ended c.self.inside.rest.now c.if-self.false (sym c.in-None.ensures) in
    cc
