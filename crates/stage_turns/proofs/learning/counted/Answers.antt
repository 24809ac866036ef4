use Rattle.std.proofs.Common.{◌+◌, length, arith, ap, refl, ◌∙◌}
use Rattle.maintainer.specs.Maintainers.{value_at}
use Rattle.stage_turns.proofs.LearningLemmas.{counts_next, is_here, length-counts_with}
use Rattle.stage_turns.proofs.learning.counted.Goals as goal

pub bounds-maintainers-owner : goal.bounds-maintainers-owner
bounds-maintainers-owner c =
    let inv = c.loop-before.invariant in
    omega (arith, (c.requires (c.loop-before.before + 1) (omega (arith, inv.from)) (omega arith)).member, c.owner.ensures.value)

pub count_at-requires-clause-own : goal.count_at-requires-clause-own
count_at-requires-clause-own c =
    let inv = c.loop-before.invariant in
    (is_here _ _ _ _ _ c.index-maintainers-owner.result (c.requires (c.loop-before.before + 1) (omega (arith, inv.from)) (omega arith)) c.owner.ensures.value c.index-maintainers-owner.is).own

pub count_at-requires-clause-host : goal.count_at-requires-clause-host
count_at-requires-clause-host c r has =
    let inv = c.loop-before.invariant in
    let here = is_here _ _ _ _ _ c.index-maintainers-owner.result (c.requires (c.loop-before.before + 1) (omega (arith, inv.from)) (omega arith)) c.owner.ensures.value c.index-maintainers-owner.is in
    omega (arith, here.host r has, inv.len)

pub loop-before-preserved : goal.loop-before-preserved
loop-before-preserved c =
    let inv = c.loop-before.invariant in
    let p = c.loop-before.before + 1 in
    let here = is_here _ _ _ _ _ c.index-maintainers-owner.result (c.requires p (omega (arith, inv.from)) (omega arith)) c.owner.ensures.value c.index-maintainers-owner.is in
    let found = value_at p c.index-maintainers-owner.result.entries in
    record {
      from = omega (arith, inv.from);
      leads = counts_next c.args.maintainers.now c.loop-before.row c.count_at.new.row c.args.row c.args.from c.loop-before.before c.args.upto p found (omega arith) refl here.value c.count_at.ensures inv.leads;
      len = ap length c.count_at.ensures ∙ length-counts_with c.loop-before.row found ∙ inv.len;
    }
