use Rattle.stage_turns.proofs.RingLemmas.{has_again, moving, queues_stay, token_moves}
use Rattle.stage_turns.proofs.ring.token.Goals as goal

pub returns-clause-queues : goal.returns-clause-queues
returns-clause-queues c =
    queues_stay _ _ _ _ _ _ _ _ (moving _ _ _ _ _ _ _ _ _ c.requires c.holder-at.ensures c.item_mut.ensures.value c.give.ensures.queue c.in-Some.ensures.token c.next_queue-next.ensures.value c.item_mut-2.ensures.value c.hold.ensures)

pub returns-clause-token : goal.returns-clause-token
returns-clause-token c =
    token_moves _ _ _ _ _ _ _ _ (moving _ _ _ _ _ _ _ _ _ c.requires c.holder-at.ensures c.item_mut.ensures.value c.give.ensures.queue c.in-Some.ensures.token c.next_queue-next.ensures.value c.item_mut-2.ensures.value c.hold.ensures)

pub returns-clause-holder : goal.returns-clause-holder
returns-clause-holder c =
    has_again _ _ _ _ _ _ _ _ (moving _ _ _ _ _ _ _ _ _ c.requires c.holder-at.ensures c.item_mut.ensures.value c.give.ensures.queue c.in-Some.ensures.token c.next_queue-next.ensures.value c.item_mut-2.ensures.value c.hold.ensures)
