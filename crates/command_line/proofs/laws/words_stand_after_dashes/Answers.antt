-- What the check asks of `words_stand_after_dashes` beyond what it finds by itself.
use Rattle.command_line.proofs.Plain as example
use Rattle.command_line.proofs.laws.words_stand_after_dashes.Goals as goal

pub returns : goal.returns
returns c = record {
  mode = example.dashed_one;
  number = example.dashed_two;
  more = example.dashed_three;
  form = example.dashed_form;
}
