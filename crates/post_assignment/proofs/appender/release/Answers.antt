use Rattle.std.proofs.Common.{length, refl, sym, ◌∙◌, ap, arith}
use Rattle.maintainer.specs.Maintainers.{MaintainerState}
use Rattle.post_assignment.proofs.AppendLemmas.{all_done, gone_on, limit_on, one_released}
use Rattle.post_assignment.proofs.appender.release.Goals as goal

pub returns-in_default-clause-state : goal.returns-in_default-clause-state
returns-in_default-clause-state g c =
    (all_done _ _ _ _ _ _ _ c.loop-value.invariant.going c.next_lid-lid.ensures.value refl (sym c.in_default.is ∙ c.take_first_below.ensures.value) c.take_first_below.ensures.rest).state

pub returns-in_default-clause-lids : goal.returns-in_default-clause-lids
returns-in_default-clause-lids g c =
    c.from_vec.ensures ∙ c.shrink_to_fit.ensures.items
    ∙ (all_done _ _ _ _ _ _ _ c.loop-value.invariant.going c.next_lid-lid.ensures.value refl (sym c.in_default.is ∙ c.take_first_below.ensures.value) c.take_first_below.ensures.rest).lids

pub place-requires-clause-small : goal.place-requires-clause-small
place-requires-clause-small g c = (one_released _ _ _ _ _ _ _ c.loop-value.invariant.going c.next_lid-lid.ensures.value refl (sym c.in-Some.is ∙ c.take_first_below.ensures.value)).small

pub loop-value-smaller : goal.loop-value-smaller
loop-value-smaller g c =
    let one = one_released _ _ _ _ _ _ _ c.loop-value.invariant.going c.next_lid-lid.ensures.value refl (sym c.in-Some.is ∙ c.take_first_below.ensures.value) in
    omega (arith, one.one_less, ap length c.take_first_below.ensures.rest)

pub loop-value-preserved : goal.loop-value-preserved
loop-value-preserved g c =
    let one = one_released _ _ _ _ _ _ _ c.loop-value.invariant.going c.next_lid-lid.ensures.value refl (sym c.in-Some.is ∙ c.take_first_below.ensures.value) in
    record {
      member = rw c.place.ensures c.loop-value.invariant.member;
      going = gone_on _ _ _ _ _ _ _ _ _ one c.place.ensures c.take_first_below.ensures.rest c.push_reserved.ensures.items;
      limit = limit_on _ _ _ _ _ c.place.ensures c.next_lid-lid.ensures.next c.take_first_below.ensures.limit;
      room = omega (arith, one.one_less, ap length c.take_first_below.ensures.rest, ap (λ (m : MaintainerState g.row.T.Denot). m.spare) c.place.ensures, c.loop-value.invariant.room);
      space = omega (arith, one.one_less, ap length c.take_first_below.ensures.rest, c.push_reserved.ensures.len, c.push_reserved.ensures.capacity, c.loop-value.invariant.space);
    }
