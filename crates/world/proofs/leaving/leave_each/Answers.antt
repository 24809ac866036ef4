use Rattle.std.proofs.Common.{◌++◌, List, length, arith, rules, ap, sym, ◌∙◌, subst}
use Rattle.std.proofs.lemmas.List.{nil_from_length}
use Rattle.std.specs.List.{AllZip}
use Rattle.std.specs.Vec.Iter.{into_iter_items}
use Rattle.abstract_log.specs.declared.left.LeftAt.{LeftAt}
use Rattle.datacentre.specs.Leaving.{IsLeftBy}
use Rattle.datacentre.specs.Seen.{DatacentreState}
use Rattle.world.proofs.LeftLemmas.{all_left, one_left}
use Rattle.world.proofs.leaving.leave_each.Goals as goal

pub loop-datacentre-init : goal.loop-datacentre-init
loop-datacentre-init c = record {
  next = tt;
  finite = tt;
  leads = λ (more : List LeftAt) all. subst (λ (ls : List LeftAt). AllZip IsLeftBy (into_iter_items c.into_iter-datacentre-iterator.result) (ls ++ more)) (sym c.new-left.ensures) all;
  len = search rules;
}

pub loop-datacentre-preserved : goal.loop-datacentre-preserved
loop-datacentre-preserved c = record {
  next = tt;
  finite = tt;
  leads = one_left _ _ _ _ _ _ _ c.in-Some.ensures.steps.0 c.in_ok-push.ensures.ok c.in_ok-leave.ensures c.loop-datacentre.invariant.leads;
  len = omega (arith, c.loop-datacentre.invariant.len, c.in-Some.ensures.steps.1, ap (λ (ds : List DatacentreState). length ds) c.in-Some.ensures.steps.0);
}

pub returns : goal.returns
returns c =
    subst (λ (xs : List DatacentreState). AllZip IsLeftBy xs c.loop-datacentre.left) (c.into_iter-datacentre-iterator.ensures.into_iter_gives.0 ∙ c.into_vec-datacentre-items.ensures)
    (all_left _ _ _ (nil_from_length (into_iter_items c.loop-datacentre.datacentre-iterator) (omega (arith, c.in-None.ensures.steps.0, c.loop-datacentre.invariant.len))) c.loop-datacentre.invariant.leads)
