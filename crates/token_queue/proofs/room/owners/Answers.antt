use Rattle.std.proofs.Common.{◌+◌, ◌-◌, arith, sym}
use Rattle.std.proofs.lemmas.List.{length-set}
use Rattle.token_queue.specs.Room.{owned_among}
use Rattle.token_queue.proofs.RoomLemmas.{owned_counted, owned_few}
use Rattle.token_queue.proofs.room.owners.Goals as goal

pub loop-lid-preserved : goal.loop-lid-preserved
loop-lid-preserved c =
    let inv = c.loop-lid.invariant in
    record {
      long = omega (arith, length-set c.loop-lid.owned c.owner-owner.result);
      counted = λ m within. owned_counted c.args.epochs.now m c.loop-lid.lid (c.args.p + c.args.wanted) (owned_among c.args.epochs.now m c.args.p c.args.wanted) c.owner-owner.result c.loop-lid.owned
          (omega (arith, inv.long, c.owner-owner.ensures.within)) (sym c.owner-owner.ensures.value) c.loop-lid-test.true (inv.counted m within);
      few = λ m. omega (arith, c.loop-lid.auto.lid, owned_few m c.owner-owner.result (c.loop-lid.lid - c.args.p) c.loop-lid.owned (omega (arith, inv.long, c.owner-owner.ensures.within)) inv.few);
    }
