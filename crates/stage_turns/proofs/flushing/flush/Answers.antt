use Rattle.std.proofs.Common.{rules, arith, ap, ◌∙◌, List, length}
use Rattle.batcher.specs.declared.Parcel.{Parcel}
use Rattle.stage_turns.specs.Changing.{has_some}
use Rattle.stage_turns.proofs.ChangeLemmas.{has_some-map}
use Rattle.stage_turns.proofs.Flushes.{all_gone, first_may, have_numbers, may_start, one_gone}
use Rattle.stage_turns.proofs.flushing.flush.Goals as goal

pub flush-requires-clause-filters : goal.flush-requires-clause-filters
flush-requires-clause-filters c = omega (arith, c.requires.serving.there 0 0, c.len.ensures)

pub flush-requires-clause-numbers : goal.flush-requires-clause-numbers
flush-requires-clause-numbers c = have_numbers _ _ _ c.requires

pub loop-parcel-init : goal.loop-parcel-init
loop-parcel-init c = record {
  next = tt;
  finite = tt;
  going = may_start _ _ _ _ _ _ c.requires c.len.ensures c.new-items.ensures (c.into_iter-parcel-iterator.ensures.into_iter_gives.0 ∙ c.into_vec-parcel-items.ensures ∙ c.in_ok-parcels.ensures.ok);
  len = search rules;
}

pub hand_over-requires-clause-there : goal.hand_over-requires-clause-there
hand_over-requires-clause-there c = (first_may _ _ _ _ _ _ _ _ c.in-Some.ensures.steps.0 c.loop-parcel.invariant.going).0

pub hand_over-requires-clause-may : goal.hand_over-requires-clause-may
hand_over-requires-clause-may c = (first_may _ _ _ _ _ _ _ _ c.in-Some.ensures.steps.0 c.loop-parcel.invariant.going).1

pub loop-parcel-preserved : goal.loop-parcel-preserved
loop-parcel-preserved c = record {
  next = tt;
  finite = tt;
  going = one_gone _ _ _ _ _ _ _ _ _ _ c.in-Some.ensures.steps.0 c.in_ok-hand_over.ensures.filters c.in_ok-hand_over.ensures.told c.loop-parcel.invariant.going;
  len = omega (arith, c.loop-parcel.invariant.len, c.in-Some.ensures.steps.1, ap (λ (ps : List Parcel). length ps) c.in-Some.ensures.steps.0);
}

pub returns-clause-filters : goal.returns-clause-filters
returns-clause-filters c = (all_gone _ _ _ _ _ _ _ _ c.len.ensures (c.into_iter-parcel-iterator.ensures.into_iter_gives.0 ∙ c.into_vec-parcel-items.ensures ∙ c.in_ok-parcels.ensures.ok) (omega (arith, c.in-None.ensures.steps.0, c.loop-parcel.invariant.len)) c.loop-parcel.invariant.going).filters

pub returns-clause-outcome : goal.returns-clause-outcome
returns-clause-outcome c = c.flushed.ensures ∙ (all_gone _ _ _ _ _ _ _ _ c.len.ensures (c.into_iter-parcel-iterator.ensures.into_iter_gives.0 ∙ c.into_vec-parcel-items.ensures ∙ c.in_ok-parcels.ensures.ok) (omega (arith, c.in-None.ensures.steps.0, c.loop-parcel.invariant.len)) c.loop-parcel.invariant.going).outcome

pub returns-clause-changed : goal.returns-clause-changed
returns-clause-changed c = c.has_some-changed.ensures ∙ ap (λ (ps : List Parcel). has_some ps) c.in_ok-parcels.ensures.ok ∙ has_some-map _ c.args.batcher.now
