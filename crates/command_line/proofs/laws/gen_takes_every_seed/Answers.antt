-- What the check asks of `gen_takes_every_seed` beyond what it finds by itself.
use Rattle.command_line.proofs.AskedLemmas.{every_seed}
use Rattle.command_line.proofs.laws.gen_takes_every_seed.Goals as goal

pub returns : goal.returns
returns c = every_seed
