use Rattle.std.proofs.Common.{arith}
use Rattle.datacentre.proofs.LeftLemmas.{all_taken, none_taken, one_taken}
use Rattle.datacentre.proofs.leaving.put_outboxes.Goals as goal

pub loop-m-init : goal.loop-m-init
loop-m-init c = none_taken _ _

pub loop-m-preserved : goal.loop-m-preserved
loop-m-preserved c = one_taken _ _ _ _ _ _ _ _ (omega arith) c.take_out.ensures.outboxes c.take_out.ensures.entries c.take_out.ensures.queue c.put_entries.ensures c.loop-m.invariant

pub returns : goal.returns
returns c = all_taken _ _ _ _ _ (omega arith) c.loop-m.invariant
