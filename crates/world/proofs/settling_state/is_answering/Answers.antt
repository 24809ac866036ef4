use Rattle.std.proofs.Common.{arith}
use Rattle.stage_world.specs.Settling.{has_unanswered}
use Rattle.world.proofs.KnownLemmas.{any_here, any_next, any_none, unanswered_at}
use Rattle.world.proofs.settling_state.is_answering.Goals as goal

pub loop-datacentre-preserved : goal.loop-datacentre-preserved
loop-datacentre-preserved c z known =
    any_next has_unanswered z _ _ known c.as_slice-datacentre-items.ensures _ _ c.loop-datacentre-test.true
    (unanswered_at z _ _ known c.as_slice-datacentre-items.ensures _ _ c.loop-datacentre-test.true c.datacentre-item.is _ c.unanswered.ensures) c.if-unanswered.false (c.loop-datacentre.invariant z known)

pub returns-then-unanswered : goal.returns-then-unanswered
returns-then-unanswered c z known =
    any_here has_unanswered z _ _ known c.as_slice-datacentre-items.ensures _ _ c.loop-datacentre-test.true
    (unanswered_at z _ _ known c.as_slice-datacentre-items.ensures _ _ c.loop-datacentre-test.true c.datacentre-item.is _ c.unanswered.ensures) c.if-unanswered.true

pub returns : goal.returns
returns c z known = any_none has_unanswered z _ _ known c.as_slice-datacentre-items.ensures _ (omega (arith, c.loop-datacentre-test.false)) (c.loop-datacentre.invariant z known)
