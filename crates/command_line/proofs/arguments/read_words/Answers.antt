-- What the check asks of `read_words` beyond what it finds by itself.
use Rattle.std.proofs.Common.{codes}
use Rattle.clap.specs.Words.{found_of}
use Rattle.command_line.proofs.Tasks.{text_is, passed_on, task_is, told}
use Rattle.command_line.proofs.arguments.read_words.Goals as goal

pub returns-in_err-matches-clause-refused : goal.returns-in_err-matches-clause-refused
returns-in_err-matches-clause-refused c = passed_on c.from_residual.result c.in_err-matches.field-0.0 c.args.words.now c.from_residual.ensures.1 c.in_err-matches.ensures.refused

pub returns : goal.returns
returns c =
    let words = c.args.words.now in
    let matches = found_of c.in_ok-matches.matches in
    let found = c.in_ok-matches.ensures.found in
    let is = task_is words _ _ _ _ c.in_ok-matches.ensures.taken
    (text_is matches words (codes "mode") _ c.get_str-mode.ensures found)
    (text_is matches words (codes "number") _ c.get_str-number.ensures found)
    (text_is matches words (codes "form") _ c.get_str-form.ensures found)
    c.read_task.ensures in
    let both = told words _ c.ok_or.result is c.ok_or.ensures.value in
    record { task = both.0; refused = both.1 }
