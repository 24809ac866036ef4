use Rattle.std.proofs.Common.{length}
use Rattle.token_queue.proofs.DrainLemmas.{drain_steps}
use Rattle.token_queue.proofs.laws.stampings_are_steps.Goals as goal

pub returns : goal.returns
returns c = λ d log items. drain_steps d (length items) log items
