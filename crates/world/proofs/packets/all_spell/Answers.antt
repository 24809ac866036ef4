use Rattle.std.proofs.Common.{arith}
use Rattle.world.proofs.FullLemmas.{all_are, compares_as, first_more, one_is_other}
use Rattle.world.proofs.packets.all_spell.Goals as goal

pub returns-then-not-branch : goal.returns-then-not-branch
returns-then-not-branch c = λ ms m spelled one. one_is_other c.args.dcs c.args.packets.now c.args.packet.now ms m spelled one c.loop-held.held-index c.held-item.result c.in_ok-spell_one_message.field-0
    (omega (arith, c.loop-held-test.true)) c.held-item.is
    (compares_as c.args.dcs _ _ _ _ _ c.as_bytes.ensures c.as_bytes-in-loop-held.ensures c.in_ok-spell_one_message.ensures) c.if-not-branch.true

pub loop-held-preserved : goal.loop-held-preserved
loop-held-preserved c = λ ms m spelled one. first_more c.args.dcs c.args.packets.now c.args.packet.now ms m spelled one c.loop-held.held-index c.held-item.result c.in_ok-spell_one_message.field-0
    (omega (arith, c.loop-held-test.true)) c.held-item.is
    (compares_as c.args.dcs _ _ _ _ _ c.as_bytes.ensures c.as_bytes-in-loop-held.ensures c.in_ok-spell_one_message.ensures) c.if-not-branch.false (c.loop-held.invariant ms m spelled one)

pub returns : goal.returns
returns c = λ ms m spelled one. all_are c.args.dcs c.args.packets.now c.args.packet.now ms m spelled one c.loop-held.held-index (omega (arith, c.loop-held-test.false)) (c.loop-held.invariant ms m spelled one)
