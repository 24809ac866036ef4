-- What the check asks of `Progress::del` beyond what it finds by itself.
use Rattle.script_text.proofs.MeaningLemmas.{del_line-read}
use Rattle.script_text.proofs.progress.Progress.del.Goals as goal

pub returns : goal.returns
returns c = rw (del_line-read c.args.self.now c.args.words.now c.in_ok-key.key c.name.new.self c.in_ok-key.ensures) c.put_command.ensures
