use Rattle.token_queue.proofs.DrainLemmas.{none_is_ready}
use Rattle.token_queue.proofs.laws.no_deferred_item_is_ready.Goals as goal

pub returns : goal.returns
returns c = λ d log items. none_is_ready d log items
