-- What the check asks of `Progress::last` beyond what it finds by itself.
use Rattle.script_text.proofs.MeaningLemmas.{last_line-read}
use Rattle.script_text.proofs.progress.Progress.last.Goals as goal

pub returns : goal.returns
returns c =
    rw (last_line-read c.args.self.now c.args.words.now c.in_ok-tag.tag c.in_ok-count.count c.name.new.self c.number.new.self c.in_ok-tag.ensures c.in_ok-count.ensures)
    c.put_command.ensures
