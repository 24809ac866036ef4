use Rattle.std.proofs.Common.{◌<◌, ◌∙◌, ap, arith, length, subst, sym}
use Rattle.std.specs.Option.{ForSome}
use Rattle.toid_filter.specs.Filters.{FilterState, cancelled}
use Rattle.stage_turns.proofs.MarkingLemmas.{mix_all, mix_length, mix_lent, mix_next}
use Rattle.stage_turns.proofs.marking.cancel_all.Goals as goal

pub item_mut-requires : goal.item_mut-requires
item_mut-requires c = omega (arith, c.loop-at-test.true, c.len-at-end.ensures, ap (length {A = FilterState}) c.loop-at.invariant, mix_length cancelled c.args.filters.now c.loop-at.at)

pub cancel-requires : goal.cancel-requires
cancel-requires c =
    subst (λ (f : FilterState). ForSome f.accepted (λ mark. mark.host < length f.map)) (sym (mix_lent cancelled c.args.filters.now c.loop-at.filters c.loop-at.at c.item_mut.result.now c.loop-at.invariant (omega (arith, c.loop-at-test.true, c.len-at-end.ensures)) c.item_mut.ensures.value))
    (c.requires c.loop-at.at c.item_mut.result.now (omega (arith, c.loop-at-test.true, c.len-at-end.ensures)))

pub loop-at-preserved : goal.loop-at-preserved
loop-at-preserved c = mix_next cancelled c.args.filters.now c.loop-at.filters c.loop-at.at c.item_mut.result.now c.cancel.new.self c.loop-at.invariant (omega (arith, c.loop-at-test.true, c.len-at-end.ensures)) c.item_mut.ensures.value c.in_ok-cancel.ensures.ok

pub returns : goal.returns
returns c = c.loop-at.invariant ∙ mix_all cancelled c.args.filters.now c.loop-at.at (omega (arith, c.loop-at-test.false, c.len-at-end.ensures))
