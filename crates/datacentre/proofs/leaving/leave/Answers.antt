use Rattle.datacentre.proofs.LeftLemmas.{left_with}
use Rattle.datacentre.proofs.leaving.leave.Goals as goal

pub returns : goal.returns
returns c = left_with c.args.parts _ _ _ c.remains_of-queues.ensures c.stamped-count.ensures c.in_ok-rows.ensures
