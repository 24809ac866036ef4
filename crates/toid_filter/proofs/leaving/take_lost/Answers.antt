use Rattle.std.proofs.Common.{◌∙◌, List, arith, subst, sym}
use Rattle.causal_deps.specs.declared.record.Record.{Record}
use Rattle.toid_filter.specs.Filters.{is_own}
use Rattle.toid_filter.proofs.Losing.{IsLosing, losing_ends_kept, losing_ends_taken, losing_next, losing_some, losing_starts, none_named}
use Rattle.toid_filter.proofs.leaving.take_lost.Goals as goal

pub loop-name-init : goal.loop-name-init
loop-name-init c = record { losing = losing_starts (is_own c.args.map.now c.args.number) c.args.held.now c.args.lost.now.items c.requires.numbers; room = c.requires.room }

pub unreachable-requires : goal.unreachable-requires
unreachable-requires c = losing_some _ _ _ _ _ _ _ c.loop-name.invariant.losing c.next_lost.ensures.rising c.in-Some.name (sym c.in-Some.is ∙ c.next_lost.ensures.first) (sym c.in_default-remove_first_from.is ∙ c.remove_first_from.ensures.first)

pub loop-name-smaller : goal.loop-name-smaller
loop-name-smaller c = omega (arith, (losing_next _ _ _ _ _ _ _ c.loop-name.invariant.losing c.next_lost.ensures.rising c.in-Some.name (sym c.in-Some.is ∙ c.next_lost.ensures.first) c.in-Some-remove_first_from.rec (sym c.in-Some-remove_first_from.is ∙ c.remove_first_from.ensures.first) c.remove_first_from.new.self c.remove_first_from.ensures.rest).1)

pub loop-name-preserved : goal.loop-name-preserved
loop-name-preserved c =
    let next = losing_next _ _ _ _ _ _ _ c.loop-name.invariant.losing c.next_lost.ensures.rising c.in-Some.name (sym c.in-Some.is ∙ c.next_lost.ensures.first) c.in-Some-remove_first_from.rec (sym c.in-Some-remove_first_from.is ∙ c.remove_first_from.ensures.first) c.remove_first_from.new.self c.remove_first_from.ensures.rest in
    record {
      losing = subst (λ (xs : List Record). IsLosing (is_own c.args.map.now c.args.number) c.args.held.now c.args.lost.now.items c.remove_first_from.new.self xs c.in-Some.name.0 c.in-Some.name.1) (sym c.push_reserved.ensures.items) next.0;
      room = omega (arith, c.loop-name.invariant.room, next.1, c.push_reserved.ensures.len, c.push_reserved.ensures.capacity);
    }

pub returns-clause-kept : goal.returns-clause-kept
returns-clause-kept c = losing_ends_kept _ _ _ _ _ _ _ c.loop-name.invariant.losing c.next_lost.ensures.rising (none_named _ (sym c.in_default.is ∙ c.next_lost.ensures.first))

pub returns-clause-lost : goal.returns-clause-lost
returns-clause-lost c = losing_ends_taken _ _ _ _ _ _ _ c.loop-name.invariant.losing c.next_lost.ensures.rising (none_named _ (sym c.in_default.is ∙ c.next_lost.ensures.first))
