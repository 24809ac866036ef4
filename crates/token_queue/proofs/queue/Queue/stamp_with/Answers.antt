use Rattle.std.proofs.Common.{◌+◌, ◌∙◌, ap, sym, arith}
use Rattle.token_queue.specs.Queues.{TokenState}
use Rattle.token_queue.specs.contracts.token.Token.{the_view as token_view}
use Rattle.token_queue.specs.contracts.queue.Queue.{the_view as queue_view}
use Rattle.token_queue.proofs.QueueLemmas.{joined_stays, enough_wanted, same_room, all_taken}
use Rattle.token_queue.proofs.queue.Queue.stamp_with.Goals as goal

pub invariant_of-token-2 : goal.invariant_of-token-2
invariant_of-token-2 c = joined_stays (token_view c.token.inside) c.args.token.now (queue_view c.self.inside) c.args.self.now c.append.new.self.items c.token.invariant c.token.view_is c.self.view_is c.requires.fit c.in_ok-append.ensures.items

pub stamp_deferred-requires-clause-stamps : goal.stamp_deferred-requires-clause-stamps
stamp_deferred-requires-clause-stamps c =
    let enough = enough_wanted (token_view c.token.inside) c.args.token.now (queue_view c.self.inside) c.args.self.now c.append.new.self.items c.deferred.result c.len.result c.last.result c.most_stamped-wanted.result
    c.token.view_is c.self.view_is c.in_ok-append.ensures.items c.requires.lids c.deferred.ensures.value (omega (arith, c.len.ensures)) c.last.ensures.value c.most_stamped-wanted.ensures in
    omega (arith, enough, c.in_ok-stamps.ensures.len, c.in_ok-stamps.ensures.capacity)

pub stamp_deferred-requires-clause-room : goal.stamp_deferred-requires-clause-room
stamp_deferred-requires-clause-room c =
    let enough = enough_wanted (token_view c.token.inside) c.args.token.now (queue_view c.self.inside) c.args.self.now c.append.new.self.items c.deferred.result c.len.result c.last.result c.most_stamped-wanted.result
    c.token.view_is c.self.view_is c.in_ok-append.ensures.items c.requires.lids c.deferred.ensures.value (omega (arith, c.len.ensures)) c.last.ensures.value c.most_stamped-wanted.ensures in
    same_room c.token.inside.epochs c.in_ok-epochs.epochs (c.token.inside.last + 1) (c.last-2.result + 1) _ c.most_stamped-wanted.result _ _
    (c.in_ok-epochs.ensures ∙ c.epochs.ensures.value ∙ ap (λ (t : TokenState). t.epochs) (sym c.token.view_is))
    (omega (arith, c.last-2.ensures.value, ap (λ (t : TokenState). t.last) c.token.view_is))
    enough
    (sym (c.deref_mut-2.ensures.value ∙ all_taken _ _ _ (omega (arith, c.take_room.auto.outboxes, c.deref_mut.ensures.len))))
    c.in_ok-take_room.ensures.ok
