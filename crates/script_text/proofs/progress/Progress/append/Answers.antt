-- What the check asks of `Progress::append` beyond what it finds by itself.
use Rattle.script_text.proofs.MeaningLemmas.{append_line-read}
use Rattle.script_text.proofs.progress.Progress.append.Goals as goal

pub returns : goal.returns
returns c =
    rw (append_line-read c.args.self.now c.args.words.now c.in_ok-body.body c.body.new.self c.in_ok-tags.tags c.in_ok-body.ensures c.in_ok-tags.ensures.names)
    c.put_command.ensures
