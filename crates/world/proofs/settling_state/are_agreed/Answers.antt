use Rattle.std.proofs.Common.{arith, ap, ◌∙◌}
use Rattle.std.specs.List.{list_all}
use Rattle.stage_world.specs.MoreTurns.{same_counts}
use Rattle.world.proofs.KnownLemmas.{all_fail, all_next, all_pass, counts_at}
use Rattle.world.proofs.settling_state.are_agreed.Goals as goal

pub loop-datacentre-preserved : goal.loop-datacentre-preserved
loop-datacentre-preserved c z known =
    all_next (λ x. list_all (λ y. same_counts x.token.counts y.token.counts) z.datacentres) z _ _ known c.as_slice-datacentre-items.ensures _ _ c.loop-datacentre-test.true
    (c.all_have.ensures z known ∙ ap (λ counts. list_all (λ y. same_counts counts y.token.counts) z.datacentres) (counts_at z _ _ known c.as_slice-datacentre-items.ensures _ _ c.loop-datacentre-test.true c.datacentre-item.is _ c.log_counts.ensures))
    c.if-not-all_have.false (c.loop-datacentre.invariant z known)

pub returns-then-not-all_have : goal.returns-then-not-all_have
returns-then-not-all_have c z known =
    all_fail (λ x. list_all (λ y. same_counts x.token.counts y.token.counts) z.datacentres) z _ _ known c.as_slice-datacentre-items.ensures _ _ c.loop-datacentre-test.true
    (c.all_have.ensures z known ∙ ap (λ counts. list_all (λ y. same_counts counts y.token.counts) z.datacentres) (counts_at z _ _ known c.as_slice-datacentre-items.ensures _ _ c.loop-datacentre-test.true c.datacentre-item.is _ c.log_counts.ensures))
    c.if-not-all_have.true

pub returns : goal.returns
returns c z known = all_pass (λ x. list_all (λ y. same_counts x.token.counts y.token.counts) z.datacentres) z _ _ known c.as_slice-datacentre-items.ensures _ (omega (arith, c.loop-datacentre-test.false)) (c.loop-datacentre.invariant z known)
