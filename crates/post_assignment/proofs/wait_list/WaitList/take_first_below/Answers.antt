use Rattle.std.proofs.Common.{Some, refl, sym, ◌∙◌, ap, arith}
use Rattle.std.specs.Option.{option_map}
use Rattle.post_assignment.specs.declared.wait_list.Waiting.{Waiting}
use Rattle.post_assignment.specs.Waiting.{first_below, without_first_below}
use Rattle.post_assignment.proofs.TiedLemmas.{none_is, none_taken, one_taken, seen_limit, seen_waiting, tied_same, value_found}
use Rattle.post_assignment.proofs.wait_list.WaitList.take_first_below.Goals as goal

pub invariant_of-self : goal.invariant_of-self
invariant_of-self g c =
    let le = seen_limit _ _ _ _ c.self.view_is c.requires in
    let is = none_taken _ _ _ _ _ _ _ _ c.self.invariant.0 le c.make_ready.ensures.split c.make_ready.ensures.heap c.make_ready.ensures.above (omega (arith, c.in_default.ensures.none, c.make_ready.new.ready.data.ok)) in (
      tied_same _ _ _ _ _ _ _ _ is.tied refl refl c.in_default.ensures.unchanged.0,
      omega (arith, c.in_default.ensures.unchanged.1, c.pop.ensures.capacity, c.make_ready.ensures.room),
    )

pub returns-in_default-clause-value : goal.returns-in_default-clause-value
returns-in_default-clause-value g c =
    let le = seen_limit _ _ _ _ c.self.view_is c.requires in
    let is = none_taken _ _ _ _ _ _ _ _ c.self.invariant.0 le c.make_ready.ensures.split c.make_ready.ensures.heap c.make_ready.ensures.above (omega (arith, c.in_default.ensures.none, c.make_ready.new.ready.data.ok)) in
    ap (option_map (λ (w : Waiting g.row.T.Denot). w.value)) (sym is.first ∙ ap (first_below c.args.lid) (seen_waiting _ _ _ c.self.view_is))

pub returns-in_default-clause-rest : goal.returns-in_default-clause-rest
returns-in_default-clause-rest g c =
    let le = seen_limit _ _ _ _ c.self.view_is c.requires in
    let is = none_taken _ _ _ _ _ _ _ _ c.self.invariant.0 le c.make_ready.ensures.split c.make_ready.ensures.heap c.make_ready.ensures.above (omega (arith, c.in_default.ensures.none, c.make_ready.new.ready.data.ok)) in
    is.rest ∙ ap (without_first_below c.args.lid) (seen_waiting _ _ _ c.self.view_is)

pub unreachable-requires : goal.unreachable-requires
unreachable-requires g c =
    let le = seen_limit _ _ _ _ c.self.view_is c.requires in
    let is = one_taken _ _ _ _ _ _ _ _ _ _ _ c.self.invariant.0 le c.make_ready.ensures.split c.make_ready.ensures.heap c.make_ready.ensures.above c.in-Some.ensures.permutation c.in-Some.ensures.heap_order c.in-Some.ensures.below_top c.remove.ensures.entries c.remove.ensures.ordered c.remove.ensures.updates.0 in
    none_is _ _ c.in_default-remove.is (c.remove.ensures.value ∙ is.found)

pub invariant_of-self-2 : goal.invariant_of-self-2
invariant_of-self-2 g c =
    let le = seen_limit _ _ _ _ c.self.view_is c.requires in
    let is = one_taken _ _ _ _ _ _ _ _ _ _ _ c.self.invariant.0 le c.make_ready.ensures.split c.make_ready.ensures.heap c.make_ready.ensures.above c.in-Some.ensures.permutation c.in-Some.ensures.heap_order c.in-Some.ensures.below_top c.remove.ensures.entries c.remove.ensures.ordered c.remove.ensures.updates.0 in
    (is.tied, omega (arith, c.in-Some.ensures.len, c.pop.ensures.capacity, c.make_ready.ensures.room))

pub returns-clause-value : goal.returns-clause-value
returns-clause-value g c =
    let le = seen_limit _ _ _ _ c.self.view_is c.requires in
    let is = one_taken _ _ _ _ _ _ _ _ _ _ _ c.self.invariant.0 le c.make_ready.ensures.split c.make_ready.ensures.heap c.make_ready.ensures.above c.in-Some.ensures.permutation c.in-Some.ensures.heap_order c.in-Some.ensures.below_top c.remove.ensures.entries c.remove.ensures.ordered c.remove.ensures.updates.0 in
    sym (ap (option_map (λ (w : Waiting g.row.T.Denot). w.value)) (sym (ap (first_below c.args.lid) (seen_waiting _ _ _ c.self.view_is)) ∙ is.first ∙ ap Some (value_found _ _ _ (c.remove.ensures.value ∙ is.found) c.in-Some-remove.is)))

pub returns-clause-rest : goal.returns-clause-rest
returns-clause-rest g c =
    let le = seen_limit _ _ _ _ c.self.view_is c.requires in
    let is = one_taken _ _ _ _ _ _ _ _ _ _ _ c.self.invariant.0 le c.make_ready.ensures.split c.make_ready.ensures.heap c.make_ready.ensures.above c.in-Some.ensures.permutation c.in-Some.ensures.heap_order c.in-Some.ensures.below_top c.remove.ensures.entries c.remove.ensures.ordered c.remove.ensures.updates.0 in
    is.rest ∙ ap (without_first_below c.args.lid) (seen_waiting _ _ _ c.self.view_is)
