use Rattle.std.proofs.Common.{ap, sym, ◌∙◌, arith, length}
use Rattle.toid_filter.proofs.Reached.{raised_length}
use Rattle.toid_filter.proofs.Running.{move_starts, move_next, move_has, move_host}
use Rattle.toid_filter.proofs.filter.pass_first.Goals as goal

pub loop-done-init : goal.loop-done-init
loop-done-init c = record {
  moving = move_starts c.args.h c.args.t c.args.held.now c.args.reached.now c.args.out.now.items c.requires.rising;
  len = omega arith;
  room = c.requires.room;
  width = omega arith;
}

pub unreachable-requires : goal.unreachable-requires
unreachable-requires c = move_has c.args.h c.args.t c.args.held.now c.args.reached.now c.args.out.now.items _ _ _ _ c.loop-done.invariant.moving (omega (arith, c.loop-done-test.true, c.requires.within)) (sym c.in_default.is ∙ c.remove_first_from.ensures.first)

pub raise-requires : goal.raise-requires
raise-requires c =
    let fits = move_host c.args.h c.args.t c.args.held.now c.args.reached.now c.args.out.now.items _ _ _ _ c.loop-done.invariant.moving c.in-Some.rec (length c.args.reached.now) c.requires.hosts (sym c.in-Some.is ∙ c.remove_first_from.ensures.first) in
    omega (arith, fits, c.loop-done.invariant.width)

pub loop-done-preserved : goal.loop-done-preserved
loop-done-preserved c = record {
  moving = move_next c.args.h c.args.t c.args.held.now c.args.reached.now c.args.out.now.items _ _ _ _ c.loop-done.invariant.moving c.in-Some.rec _ _ _ (sym c.in-Some.is ∙ c.remove_first_from.ensures.first) c.remove_first_from.ensures.rest c.raise.ensures c.push_reserved.ensures.items;
  len = omega (arith, c.push_reserved.ensures.len, c.loop-done.invariant.len);
  room = omega (arith, c.push_reserved.ensures.capacity, c.loop-done.invariant.room);
  width = ap length c.raise.ensures ∙ raised_length c.loop-done.reached c.in-Some.rec.host c.in-Some.rec.toid ∙ c.loop-done.invariant.width;
}
