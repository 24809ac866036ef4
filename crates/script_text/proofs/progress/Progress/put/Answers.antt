-- What the check asks of `Progress::put` beyond what it finds by itself.
use Rattle.script_text.proofs.MeaningLemmas.{put_line-read}
use Rattle.script_text.proofs.progress.Progress.put.Goals as goal

pub returns : goal.returns
returns c =
    rw (put_line-read c.args.self.now c.args.words.now c.in_ok-key.key c.in_ok-body.body c.name.new.self c.body.new.self c.in_ok-key.ensures c.in_ok-body.ensures)
    c.put_command.ensures
