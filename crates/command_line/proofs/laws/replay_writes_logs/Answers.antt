-- What the check asks of `replay_writes_logs` beyond what it finds by itself.
use Rattle.command_line.proofs.Examples as example
use Rattle.command_line.proofs.laws.replay_writes_logs.Goals as goal

pub returns : goal.returns
returns c = record {
  alone = example.replay_alone;
  dashes = example.replay_closed;
}
