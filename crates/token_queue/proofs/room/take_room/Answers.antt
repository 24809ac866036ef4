use Rattle.std.proofs.Common.{◌<◌, ◌∙◌, arith, length}
use Rattle.token_queue.proofs.RoomLemmas.{outbox_kept, taken_more}
use Rattle.token_queue.proofs.room.take_room.Goals as goal

pub returns-in_err-reserve-clause-same : goal.returns-in_err-reserve-clause-same
returns-in_err-reserve-clause-same c = outbox_kept _ _ _ _ c.in_err-reserve.ensures.same ∙ c.loop-m.invariant.same

pub loop-m-preserved : goal.loop-m-preserved
loop-m-preserved c = record {
  same = outbox_kept _ _ _ _ c.reserve.ensures.same ∙ c.loop-m.invariant.same;
  taken =
      let there : c.loop-m.m < length c.loop-m.outboxes = omega (arith, c.loop-m.auto.outboxes, c.requires.members, c.loop-m-test.true) in
      let wanted = c.owners-owned.ensures c.loop-m.m (omega (arith, c.loop-m-test.true)) in
      taken_more c.args.epochs.now c.args.p c.args.wanted c.loop-m.outboxes c.loop-m.m c.reserve.new.self there c.loop-m.invariant.taken (omega (arith, wanted, c.in_ok-reserve.ensures.ok));
}
