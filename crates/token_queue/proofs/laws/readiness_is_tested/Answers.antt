use Rattle.token_queue.proofs.ItemLemmas.{ready_told, ready_found}
use Rattle.token_queue.proofs.laws.readiness_is_tested.Goals as goal

pub returns : goal.returns
returns c = λ counts item. (ready_told counts item, ready_found counts item)
