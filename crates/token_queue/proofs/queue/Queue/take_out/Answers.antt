use Rattle.token_queue.proofs.RoomLemmas.{outbox_emptied}
use Rattle.token_queue.proofs.queue.Queue.take_out.Goals as goal

pub returns-clause-queue : goal.returns-clause-queue
returns-clause-queue c =
    let e = outbox_emptied c.self.inside.outboxes.items c.args.m c.take.new.self c.take.ensures.after in
    rw (← c.self.view_is) (rw e)
