use Rattle.std.proofs.Common.{arith}
use Rattle.datacentre.proofs.WholeJoins.{if_six, may_add_queue, queue_joins}
use Rattle.datacentre.proofs.parts.Parts.add_queue.Goals as goal

pub add_queue-requires : goal.add_queue-requires
add_queue-requires c = may_add_queue c.args.self.now c.len.result c.requires c.len.ensures (omega arith)

pub returns-clause-turned : goal.returns-clause-turned
returns-clause-turned c =
    if_six c.add_queue.result _ _ _ _ _ _ _ c.add_queue.ensures.queues c.add_queue.ensures.token c.add_queue.ensures.holder c.add_queue.ensures.outcome c.add_queue.ensures.events c.add_queue.ensures.changed
    (λ done queues token holder outcome events changed. queue_joins c.args.self.now c.add_queue.new.queues c.len.result done c.requires c.len.ensures (omega arith) queues token holder outcome events changed)
