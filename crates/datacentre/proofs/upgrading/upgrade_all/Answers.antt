use Rattle.std.proofs.Common.{◌∙◌, ap, arith, length}
use Rattle.sender_receiver.specs.Sending.{SenderState}
use Rattle.datacentre.specs.Seen.{upgraded}
use Rattle.stage_turns.proofs.MarkingLemmas.{mix_all, mix_length, mix_next}
use Rattle.datacentre.proofs.upgrading.upgrade_all.Goals as goal

pub item_mut-requires : goal.item_mut-requires
item_mut-requires c = omega (arith, c.loop-at-test.true, c.len-at-end.ensures, ap (length {A = SenderState}) c.loop-at.invariant, mix_length upgraded c.args.senders.now c.loop-at.at)

pub loop-at-preserved : goal.loop-at-preserved
loop-at-preserved c = mix_next upgraded c.args.senders.now c.loop-at.senders c.loop-at.at c.item_mut.result.now c.upgrade.new.self c.loop-at.invariant (omega (arith, c.loop-at-test.true, c.len-at-end.ensures)) c.item_mut.ensures.value c.upgrade.ensures

pub returns : goal.returns
returns c = c.loop-at.invariant ∙ mix_all upgraded c.args.senders.now c.loop-at.at (omega (arith, c.loop-at-test.false, c.len-at-end.ensures))
