-- What the check asks of `gen_takes_no_more` beyond what it finds by itself.
use Rattle.command_line.proofs.Examples as example
use Rattle.command_line.proofs.laws.gen_takes_no_more.Goals as goal

pub returns : goal.returns
returns c = record {
  alone = example.gen_alone;
  leading_zero = example.gen_leading_zero;
  too_large = example.gen_too_large;
  form = example.gen_with_form;
}
