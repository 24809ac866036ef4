use Rattle.std.proofs.Common.{◌∙◌, ap, refl, subst, sym}
use Rattle.token_queue.specs.Queues.{QueueState, with_queue}
use Rattle.stage_world.specs.Stages.{queue_at}
use Rattle.stage_turns.specs.Lent.{HaveToken, queues_seen, token_seen}
use Rattle.stage_turns.proofs.RingLemmas.{token_is}
use Rattle.stage_turns.proofs.JoiningLemmas.{has_after_push, has_changed, holder_token, pushed_seen, queues_stay}
use Rattle.stage_turns.proofs.joining.add_queue.Goals as goal

pub epochs_at-requires-clause-has : goal.epochs_at-requires-clause-has
epochs_at-requires-clause-has c = (token_seen c.args.queues.now, ap (λ k. (queue_at c.args.queues.now k).token) c.holder-at.ensures ∙ c.requires.has.holder)

pub returns-clause-queues : goal.returns-clause-queues
returns-clause-queues c =
    ap queues_seen c.in_ok-push.ensures.ok
    ∙ pushed_seen _ _ c.in_ok-queue.queue _ _ _ _ (queues_stay c.args.queues.now (token_seen c.args.queues.now) c.holder-at.result c.item_mut.result.now c.requires.has c.holder-at.ensures c.item_mut.ensures.value (with_queue (token_seen c.args.queues.now)) c.grow_ring.new.queue refl (c.grow_ring.ensures (token_seen c.args.queues.now) (holder_token c.args.queues.now (token_seen c.args.queues.now) c.holder-at.result c.item_mut.result.now c.requires.has c.holder-at.ensures c.item_mut.ensures.value))) c.in_ok-queue.ensures c.len-number.ensures
    (c.in_ok-epochs.ensures (token_seen c.args.queues.now) (ap (λ k. (queue_at c.args.queues.now k).token) c.holder-at.ensures ∙ c.requires.has.holder))

pub returns-clause-token : goal.returns-clause-token
returns-clause-token c =
    ap token_seen c.in_ok-push.ensures.ok ∙ token_is _ (with_queue (token_seen c.args.queues.now)) (has_after_push _ (with_queue (token_seen c.args.queues.now)) c.in_ok-queue.queue (has_changed c.args.queues.now (token_seen c.args.queues.now) c.holder-at.result c.item_mut.result.now c.requires.has c.holder-at.ensures c.item_mut.ensures.value (with_queue (token_seen c.args.queues.now)) c.grow_ring.new.queue refl (c.grow_ring.ensures (token_seen c.args.queues.now) (holder_token c.args.queues.now (token_seen c.args.queues.now) c.holder-at.result c.item_mut.result.now c.requires.has c.holder-at.ensures c.item_mut.ensures.value))) (ap (λ (x : QueueState). x.token) c.in_ok-queue.ensures))

pub returns-clause-holder : goal.returns-clause-holder
returns-clause-holder c = subst (λ qs. HaveToken qs (with_queue (token_seen c.args.queues.now))) (sym c.in_ok-push.ensures.ok) (has_after_push _ (with_queue (token_seen c.args.queues.now)) c.in_ok-queue.queue (has_changed c.args.queues.now (token_seen c.args.queues.now) c.holder-at.result c.item_mut.result.now c.requires.has c.holder-at.ensures c.item_mut.ensures.value (with_queue (token_seen c.args.queues.now)) c.grow_ring.new.queue refl (c.grow_ring.ensures (token_seen c.args.queues.now) (holder_token c.args.queues.now (token_seen c.args.queues.now) c.holder-at.result c.item_mut.result.now c.requires.has c.holder-at.ensures c.item_mut.ensures.value))) (ap (λ (x : QueueState). x.token) c.in_ok-queue.ensures))
