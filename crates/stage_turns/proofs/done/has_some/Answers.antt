use Rattle.stage_turns.proofs.ChangeLemmas.{has_some_is}
use Rattle.stage_turns.proofs.done.has_some.Goals as goal

pub returns : goal.returns
returns g c = has_some_is c.is_empty.result c.args.items.now c.is_empty.ensures
