use Rattle.std.proofs.Common.{List, length, arith, ap}
use Rattle.token_queue.specs.Queues.{QueueState}
use Rattle.datacentre.proofs.LeftLemmas.{one_more}
use Rattle.stage_world.specs.Leaving.{slots_in}
use Rattle.datacentre.proofs.leaving.put_queues.Goals as goal

pub loop-queue-preserved : goal.loop-queue-preserved
loop-queue-preserved c =
    let inv = c.loop-queue.invariant in
    let steps = c.in-Some.ensures.steps in
    record {
      next = tt;
      finite = tt;
      leads = one_more (λ (q : QueueState). slots_in q.outboxes) _ _ _ c.in-Some.queue _ _ steps.0 c.put_outboxes.ensures inv.leads;
      len = omega (arith, inv.len, steps.1, ap (λ (xs : List QueueState). length xs) steps.0);
    }
