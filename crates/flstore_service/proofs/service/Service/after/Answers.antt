use Rattle.std.proofs.Common.{ap}
use Rattle.post_assignment.specs.declared.appender.Here.{Here}
use Rattle.flstore_service.proofs.TurnLemmas.{after_kept, after_put, placed_here, placed_low, put_in_is, there_is}
use Rattle.flstore_service.proofs.RoomLemmas.{has_room}
use Rattle.flstore_service.proofs.service.Service.after.Goals as goal

pub append_after-requires-clause-member : goal.append_after-requires-clause-member
append_after-requires-clause-member c = (has_room c.args.self.now c.args.m c.item_mut.result.now c.in_ok-value.value c.requires (there_is _ _ _ c.if-not-has.ensures c.item_mut.ensures.value)).member

pub append_after-requires-clause-room : goal.append_after-requires-clause-room
append_after-requires-clause-room c = λ _. has_room c.args.self.now c.args.m c.item_mut.result.now c.in_ok-value.value c.requires (there_is _ _ _ c.if-not-has.ensures c.item_mut.ensures.value)

pub returns-in-Kept : goal.returns-in-Kept
returns-in-Kept c =
    let high = c.in_ok-after.ensures.kept.0 c.in-Kept.is in
    after_kept c.args.self.now c.args.m c.args.bound c.args.body.now c.item_mut.result.now c.in_ok-value.value c.append_after.new.self (there_is _ _ _ c.if-not-has.ensures c.item_mut.ensures.value) high c.in_ok-value.ensures (c.in_ok-after.ensures.waits high)

pub returns-in-Placed : goal.returns-in-Placed
returns-in-Placed c =
    let low = placed_low c.in_ok-after.after c.in-Placed.here c.args.bound _ c.in-Placed.is c.in_ok-after.ensures.kept in
    let here = placed_here c.in_ok-after.after c.in-Placed.here _ c.in-Placed.is (c.in_ok-after.ensures.placed low) in
    after_put c.args.self.now c.args.m c.args.bound c.args.body.now c.item_mut.result.now _ (there_is _ _ _ c.if-not-has.ensures c.item_mut.ensures.value) low
    (put_in_is c.args.self.now c.args.m c.args.bound c.args.body.now c.item_mut.result.now c.in_ok-value.value c.append_after.new.self c.in-Placed.here.lid c.in-Placed.here.released _ _ c.in_ok-value.ensures (c.in_ok-after.ensures.state low)
    (ap (λ (h : Here). h.lid) here) (ap (λ (h : Here). h.released) here) c.placed.ensures.service c.placed.ensures.outcome)
