use Rattle.std.proofs.Common.{arith, subst, sym}
use Rattle.world.specs.Links.{AreSpelled}
use Rattle.world.proofs.FullLemmas.{full_tells, room_left}
use Rattle.world.proofs.packets.is_full_of.Goals as goal

pub returns-then-len-lt-PACKETS : goal.returns-then-len-lt-PACKETS
returns-then-len-lt-PACKETS c = λ ms m spelled one. room_left c.args.dcs c.args.link.now c.args.packet.now ms m spelled one (omega (arith, c.if-len-lt-PACKETS.true, c.len.ensures.value))

pub returns : goal.returns
returns c = λ ms m spelled one. full_tells c.args.dcs c.args.link.now c.args.packet.now ms m spelled one c.all_spell.result (omega (arith, c.len.ensures.within)) (omega (arith, c.if-len-lt-PACKETS.false, c.len.ensures.value))
    (c.all_spell.ensures ms m (subst (λ ps. AreSpelled c.args.dcs ps ms) (sym c.packets.ensures) spelled) one)
