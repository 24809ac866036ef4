-- What the check asks of `replay_takes_no_more` beyond what it finds by itself.
use Rattle.command_line.proofs.Examples as example
use Rattle.command_line.proofs.laws.replay_takes_no_more.Goals as goal

pub returns : goal.returns
returns c = record {
  not_named = example.form_not_named;
  twice = example.form_twice;
  unknown = example.form_unknown;
  number = example.replay_with_number;
}
