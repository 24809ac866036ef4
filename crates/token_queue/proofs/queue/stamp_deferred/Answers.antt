use Rattle.std.proofs.Common.{◌<◌, arith, length}
use Rattle.token_queue.proofs.Stamping.{IsNext, next_is, none_is, next_has_room, rest_has_room, next_answer, next_dealt, next_left, next_lids, next_smaller, lid_is_left, answer_whole, dealt_whole, left_whole}
use Rattle.token_queue.proofs.queue.stamp_deferred.Goals as goal

pub stamp_next-requires : goal.stamp_next-requires
stamp_next-requires c = lid_is_left c.loop-entry.token c.loop-entry.invariant.lids

pub push_reserved-requires : goal.push_reserved-requires
push_reserved-requires c =
    let next : IsNext c.loop-entry.token c.in-Some.entry c.stamp_next.new.self = next_is _ _ _ _ c.stamp_next.ensures.entry c.stamp_next.ensures.token c.in-Some.is in
    omega (arith, next.fewer, c.loop-entry.invariant.stamps)

pub put-requires : goal.put-requires
put-requires c =
    let next : IsNext c.loop-entry.token c.in-Some.entry c.stamp_next.new.self = next_is _ _ _ _ c.stamp_next.ensures.entry c.stamp_next.ensures.token c.in-Some.is in
    next_has_room _ _ _ _ _ _ _ next c.epochs.ensures.value c.owner-owner.ensures.value (omega (arith, c.loop-entry.auto.outboxes, c.requires.members, c.owner-owner.ensures.within)) c.loop-entry.invariant.room

pub loop-entry-smaller : goal.loop-entry-smaller
loop-entry-smaller c =
    let next : IsNext c.loop-entry.token c.in-Some.entry c.stamp_next.new.self = next_is _ _ _ _ c.stamp_next.ensures.entry c.stamp_next.ensures.token c.in-Some.is in
    next_smaller _ _ _ next

pub loop-entry-preserved : goal.loop-entry-preserved
loop-entry-preserved c =
    let next : IsNext c.loop-entry.token c.in-Some.entry c.stamp_next.new.self = next_is _ _ _ _ c.stamp_next.ensures.entry c.stamp_next.ensures.token c.in-Some.is in
    let inv = c.loop-entry.invariant in
    let there : c.owner-owner.result < length c.loop-entry.outboxes = omega (arith, c.loop-entry.auto.outboxes, c.requires.members, c.owner-owner.ensures.within) in
    record {
      answer = next_answer _ _ _ _ _ _ _ next c.stamp_of_entry.ensures c.push_reserved.ensures.items inv.answer;
      dealt = next_dealt _ _ _ _ _ _ _ _ _ next c.epochs.ensures.value c.owner-owner.ensures.value there c.put.ensures.entries inv.dealt;
      left = next_left _ _ _ _ next inv.left;
      lids = omega (arith, next_lids _ _ _ next, inv.lids);
      stamps = omega (arith, next.fewer, c.push_reserved.ensures.len, c.push_reserved.ensures.capacity, inv.stamps);
      room = rest_has_room _ _ _ _ _ _ _ _ next c.epochs.ensures.value c.owner-owner.ensures.value there inv.room c.put.ensures.room;
    }

pub returns-clause-stamps : goal.returns-clause-stamps
returns-clause-stamps c = answer_whole c.loop-entry.token _ _ (none_is c.loop-entry.token _ c.stamp_next.ensures.entry c.in_default.is) c.loop-entry.invariant.answer

pub returns-clause-outboxes : goal.returns-clause-outboxes
returns-clause-outboxes c = dealt_whole c.loop-entry.token _ _ (none_is c.loop-entry.token _ c.stamp_next.ensures.entry c.in_default.is) c.loop-entry.invariant.dealt

pub returns-clause-token : goal.returns-clause-token
returns-clause-token c = left_whole c.loop-entry.token _ _ (none_is c.loop-entry.token _ c.stamp_next.ensures.entry c.in_default.is) c.stamp_next.ensures.token c.loop-entry.invariant.left
