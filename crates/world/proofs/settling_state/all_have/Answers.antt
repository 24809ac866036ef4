use Rattle.std.proofs.Common.{arith}
use Rattle.stage_world.specs.MoreTurns.{same_counts}
use Rattle.world.proofs.KnownLemmas.{all_fail, all_next, all_pass, same_at}
use Rattle.world.proofs.settling_state.all_have.Goals as goal

pub loop-datacentre-preserved : goal.loop-datacentre-preserved
loop-datacentre-preserved c z known =
    all_next (λ y. same_counts c.args.counts.now y.token.counts) z _ _ known c.as_slice-datacentre-items.ensures _ _ c.loop-datacentre-test.true
    (same_at z _ _ known c.as_slice-datacentre-items.ensures _ _ c.loop-datacentre-test.true c.datacentre-item.is c.args.counts.now _ c.has_counts.ensures) c.if-not-has_counts.false (c.loop-datacentre.invariant z known)

pub returns-then-not-has_counts : goal.returns-then-not-has_counts
returns-then-not-has_counts c z known =
    all_fail (λ y. same_counts c.args.counts.now y.token.counts) z _ _ known c.as_slice-datacentre-items.ensures _ _ c.loop-datacentre-test.true
    (same_at z _ _ known c.as_slice-datacentre-items.ensures _ _ c.loop-datacentre-test.true c.datacentre-item.is c.args.counts.now _ c.has_counts.ensures) c.if-not-has_counts.true

pub returns : goal.returns
returns c z known = all_pass (λ y. same_counts c.args.counts.now y.token.counts) z _ _ known c.as_slice-datacentre-items.ensures _ (omega (arith, c.loop-datacentre-test.false)) (c.loop-datacentre.invariant z known)
