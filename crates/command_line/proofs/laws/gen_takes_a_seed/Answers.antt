-- What the check asks of `gen_takes_a_seed` beyond what it finds by itself.
use Rattle.command_line.proofs.Examples as example
use Rattle.command_line.proofs.laws.gen_takes_a_seed.Goals as goal

pub returns : goal.returns
returns c = record {
  least = example.gen_least;
  seven = example.gen_seven;
  dashes = example.gen_closed;
  greatest = example.gen_greatest;
}
