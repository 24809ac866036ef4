use Rattle.std.proofs.Common.{◌≡◌, ◌<◌, ◌∙◌, ◌++◌, map, Some, ap, arith, length, subst, sym}
use Rattle.std.specs.Option.{ForSome}
use Rattle.causal_deps.specs.declared.record.Item.TheVariants.{External}
use Rattle.toid_filter.specs.declared.filter.AcceptedMark.{AcceptedMark}
use Rattle.toid_filter.specs.Champions.{grown}
use Rattle.toid_filter.specs.Filters.{FilterState, activated, handed_out}
use Rattle.stage_turns.proofs.MarkingLemmas.{all_handed, mix_all, mix_length, mix_lent, mix_next, more_handed}
use Rattle.stage_turns.proofs.marking.activate_all.Goals as goal

pub item_mut-requires : goal.item_mut-requires
item_mut-requires c = omega (arith, c.loop-at-test.true, c.len-at-end.ensures, ap (length {A = FilterState}) c.loop-at.invariant.filters, mix_length (activated c.args.grown.now) c.args.filters.now c.loop-at.at)

pub activate_one-requires-clause-grown : goal.activate_one-requires-clause-grown
activate_one-requires-clause-grown c =
    subst (λ (f : FilterState). (mark : AcceptedMark) × (f.accepted ≡ Some mark) × (c.in_ok-copy.field-0 ≡ grown f.map mark.host mark.from)) (sym (mix_lent (activated c.args.grown.now) c.args.filters.now c.loop-at.filters c.loop-at.at c.item_mut.result.now c.loop-at.invariant.filters (omega (arith, c.loop-at-test.true, c.len-at-end.ensures)) c.item_mut.ensures.value))
    (let waits = (c.requires c.loop-at.at c.item_mut.result.now (omega (arith, c.loop-at-test.true, c.len-at-end.ensures))).0 in (waits.0, waits.1, c.in_ok-copy.ensures ∙ waits.2))

pub activate_one-requires-clause-host : goal.activate_one-requires-clause-host
activate_one-requires-clause-host c =
    subst (λ (f : FilterState). ForSome f.accepted (λ mark. mark.host < length f.map)) (sym (mix_lent (activated c.args.grown.now) c.args.filters.now c.loop-at.filters c.loop-at.at c.item_mut.result.now c.loop-at.invariant.filters (omega (arith, c.loop-at-test.true, c.len-at-end.ensures)) c.item_mut.ensures.value))
    (c.requires c.loop-at.at c.item_mut.result.now (omega (arith, c.loop-at-test.true, c.len-at-end.ensures))).1

pub loop-at-preserved : goal.loop-at-preserved
loop-at-preserved c = record {
  filters = mix_next (activated c.args.grown.now) c.args.filters.now c.loop-at.filters c.loop-at.at c.item_mut.result.now c.activate_one.new.filter c.loop-at.invariant.filters (omega (arith, c.loop-at-test.true, c.len-at-end.ensures)) c.item_mut.ensures.value
      (c.in_ok-activate_one.ensures.filter ∙ ap (λ m. activated m c.item_mut.result.now) c.in_ok-copy.ensures);
  handed = more_handed (handed_out c.args.grown.now) c.args.handed.now c.loop-at.handed c.activate_one.new.handed c.args.filters.now c.loop-at.at c.item_mut.result.now c.loop-at.invariant.handed (omega (arith, c.loop-at-test.true, c.len-at-end.ensures)) (mix_lent (activated c.args.grown.now) c.args.filters.now c.loop-at.filters c.loop-at.at c.item_mut.result.now c.loop-at.invariant.filters (omega (arith, c.loop-at-test.true, c.len-at-end.ensures)) c.item_mut.ensures.value)
      (c.in_ok-activate_one.ensures.handed ∙ ap (λ m. c.loop-at.handed ++ map External (handed_out m c.item_mut.result.now)) c.in_ok-copy.ensures);
}

pub returns-clause-filters : goal.returns-clause-filters
returns-clause-filters c = c.loop-at.invariant.filters ∙ mix_all (activated c.args.grown.now) c.args.filters.now c.loop-at.at (omega (arith, c.loop-at-test.false, c.len-at-end.ensures))

pub returns-clause-handed : goal.returns-clause-handed
returns-clause-handed c = all_handed (handed_out c.args.grown.now) c.args.handed.now c.loop-at.handed c.args.filters.now c.loop-at.at c.loop-at.invariant.handed (omega (arith, c.loop-at-test.false, c.len-at-end.ensures))
