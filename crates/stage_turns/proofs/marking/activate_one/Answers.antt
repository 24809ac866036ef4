use Rattle.std.proofs.Common.{List, ◌++◌, ◌∙◌, ap, arith, length, map}
use Rattle.causal_deps.specs.declared.record.Record.{Record}
use Rattle.causal_deps.specs.declared.record.Item.TheVariants.{External}
use Rattle.stage_turns.proofs.MarkingLemmas.{none_left, one_added}
use Rattle.stage_turns.proofs.marking.activate_one.Goals as goal

pub loop-rec-preserved : goal.loop-rec-preserved
loop-rec-preserved c =
    let inv = c.loop-rec.invariant in
    let steps = c.in-Some.ensures.steps in
    record {
      next = tt;
      finite = tt;
      leads = one_added _ _ _ _ _ c.in-Some.rec inv.leads steps.0 c.in_ok-add.ensures.ok;
      len = omega (arith, inv.len, steps.1, ap (λ (xs : List Record). length xs) steps.0);
    }

pub returns-clause-handed : goal.returns-clause-handed
returns-clause-handed c =
    none_left _ _ _ c.loop-rec.invariant.leads (omega (arith, c.in-None.ensures.steps.0, c.loop-rec.invariant.len))
    ∙ ap (λ (rs : List Record). c.args.handed.now ++ map External rs) (c.into_iter-rec-iterator.ensures.into_iter_gives.0 ∙ c.into_vec-rec-items.ensures ∙ c.in_ok-activate.ensures.out)
