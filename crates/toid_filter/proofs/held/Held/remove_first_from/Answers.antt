use Rattle.std.proofs.Common.{◌++◌, [], drop, ap, sym, ◌∙◌, slice_get, ◌≡◌}
use Rattle.toid_filter.specs.Filters.{before_name, from_name}
use Rattle.toid_filter.proofs.HeldLemmas.{none_named, two_parts, removed_in, named_again, values_are}
use Rattle.toid_filter.proofs.held.Held.remove_first_from.Goals as goal

pub returns-in-None-clause-first : goal.returns-in-None-clause-first
returns-in-None-clause-first c = sym (ap (λ xs. slice_get xs 0) (none_named _ (sym c.range_from.ensures.shown ∙ c.in-None.ensures.steps.0)))

pub returns-in-None-clause-rest : goal.returns-in-None-clause-rest
returns-in-None-clause-rest c =
    let none : from_name c.args.h c.args.t c.args.self.now ≡ [] = none_named _ (sym c.range_from.ensures.shown ∙ c.in-None.ensures.steps.0) in
    two_parts c.args.h c.args.t c.args.self.now c.range_from.ensures.rising ∙ ap (λ xs. before_name c.args.h c.args.t c.args.self.now ++ xs) (none ∙ sym (ap (drop 1) none))

pub invariant_of-self : goal.invariant_of-self
invariant_of-self c = named_again _ _ (removed_in _ _ c.self.invariant c.self.view_is c.args.h c.args.t _ _ _ _ c.range_from.ensures.rising (sym c.range_from.ensures.shown ∙ c.in-Some.ensures.steps) c.remove.ensures.value c.remove.ensures.entries).1

pub returns-clause-first : goal.returns-clause-first
returns-clause-first c = (removed_in _ _ c.self.invariant c.self.view_is c.args.h c.args.t _ _ _ _ c.range_from.ensures.rising (sym c.range_from.ensures.shown ∙ c.in-Some.ensures.steps) c.remove.ensures.value c.remove.ensures.entries).0

pub returns-clause-rest : goal.returns-clause-rest
returns-clause-rest c = values_are _ _ (removed_in _ _ c.self.invariant c.self.view_is c.args.h c.args.t _ _ _ _ c.range_from.ensures.rising (sym c.range_from.ensures.shown ∙ c.in-Some.ensures.steps) c.remove.ensures.value c.remove.ensures.entries).1
