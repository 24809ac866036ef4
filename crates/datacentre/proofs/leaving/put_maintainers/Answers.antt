use Rattle.std.proofs.Common.{List, length, arith, ap}
use Rattle.causal_deps.specs.declared.record.Record.{Record}
use Rattle.maintainer.specs.Maintainers.{MaintainerState}
use Rattle.datacentre.proofs.LeftLemmas.{one_more}
use Rattle.std.proofs.Common.{◌∙◌}
use Rattle.std.specs.List.{fold}
use Rattle.stage_world.specs.Leaving.{with_slot}
use Rattle.datacentre.proofs.leaving.put_maintainers.Goals as goal

pub loop-maintainer-preserved : goal.loop-maintainer-preserved
loop-maintainer-preserved c =
    let inv = c.loop-maintainer.invariant in
    let steps = c.in-Some.ensures.steps in
    record {
      next = tt;
      finite = tt;
      leads = one_more (λ (m : MaintainerState Record). m.entries) _ _ _ c.in-Some.maintainer _ _ steps.0 (c.put_slots.ensures ∙ ap (λ ss. fold with_slot c.loop-maintainer.rows ss) c.into_slots.ensures) inv.leads;
      len = omega (arith, inv.len, steps.1, ap (λ (xs : List (MaintainerState Record)). length xs) steps.0);
    }
