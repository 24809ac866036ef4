-- What the check asks of `Progress::turn` beyond what it finds by itself.
use Rattle.std.proofs.Common.{sym}
use Rattle.script_text.proofs.MeaningLemmas.{turn_line-read}
use Rattle.script_text.proofs.progress.Progress.turn.Goals as goal

pub returns : goal.returns
returns c =
    rw (turn_line-read c.args.self.now c.args.word c.args.words.now c.len.result c.arguments.result.now c.in_ok-given.given c.step_said.result c.len.ensures c.arguments.ensures (sym c.in_ok-given.ensures) c.step_said.ensures)
    c.put_step.ensures
