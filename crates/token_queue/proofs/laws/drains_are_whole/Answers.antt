use Rattle.token_queue.proofs.DrainLemmas.{drained_twice}
use Rattle.token_queue.proofs.laws.drains_are_whole.Goals as goal

pub returns : goal.returns
returns c = λ d log items. drained_twice d log items
