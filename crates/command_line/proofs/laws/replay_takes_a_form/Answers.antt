-- What the check asks of `replay_takes_a_form` beyond what it finds by itself.
use Rattle.command_line.proofs.Examples as example
use Rattle.command_line.proofs.laws.replay_takes_a_form.Goals as goal

pub returns : goal.returns
returns c = record {
  after = example.form_after;
  joined = example.form_joined_after;
  before = example.form_before;
  joined_before = example.form_joined_before;
}
