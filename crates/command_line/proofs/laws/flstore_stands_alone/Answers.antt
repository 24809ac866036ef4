-- What the check asks of `flstore_stands_alone` beyond what it finds by itself.
use Rattle.command_line.proofs.Examples as example
use Rattle.command_line.proofs.laws.flstore_stands_alone.Goals as goal

pub returns : goal.returns
returns c = record {
  alone = example.flstore_alone;
  dashes = example.flstore_closed;
  number = example.flstore_with_number;
  form = example.flstore_with_form;
  form_before = example.flstore_after_form;
}
