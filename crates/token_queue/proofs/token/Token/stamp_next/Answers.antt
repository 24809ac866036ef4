use Rattle.std.proofs.Common.{arith}
use Rattle.token_queue.specs.contracts.token.Token.{the_view}
use Rattle.token_queue.proofs.TokenLemmas.{not_out, out_is, lid_left, toid_left, entry_is, token_is, token_stays}
use Rattle.token_queue.proofs.token.Token.stamp_next.Goals as goal

pub returns-in_default-clause-entry : goal.returns-in_default-clause-entry
returns-in_default-clause-entry c =
    let e = not_out _ _ _ _ c.first_ready.ensures c.deref.ensures.value c.in_default.is in
    rw (← c.self.view_is) (rw e)

pub returns-in_default-clause-token : goal.returns-in_default-clause-token
returns-in_default-clause-token c =
    let e = not_out _ _ _ _ c.first_ready.ensures c.deref.ensures.value c.in_default.is in
    rw (← c.self.view_is) (rw e)

pub into_record-rec-requires-clause-toid : goal.into_record-rec-requires-clause-toid
into_record-rec-requires-clause-toid c =
    let e = out_is _ _ _ _ _ _ c.first_ready.ensures c.deref.ensures.value c.in-Some.is c.remove-item.ensures.value in
    toid_left (the_view c.self.inside) c.self.invariant (lid_left (the_view c.self.inside) _ _ _ c.self.view_is e c.requires)

pub overflow_add-self : goal.overflow_add-self
overflow_add-self c =
    let e = out_is _ _ _ _ _ _ c.first_ready.ensures c.deref.ensures.value c.in-Some.is c.remove-item.ensures.value in
    let left = lid_left (the_view c.self.inside) _ _ _ c.self.view_is e c.requires in
    omega (arith, left)

pub invariant_of-self : goal.invariant_of-self
invariant_of-self c =
    let e = out_is _ _ _ _ _ _ c.first_ready.ensures c.deref.ensures.value c.in-Some.is c.remove-item.ensures.value in
    token_stays (the_view c.self.inside) _ _ _ _ _ c.self.invariant e c.into_record-rec.ensures c.put.ensures c.remove-item.ensures.items

pub returns-clause-entry : goal.returns-clause-entry
returns-clause-entry c =
    let e = out_is _ _ _ _ _ _ c.first_ready.ensures c.deref.ensures.value c.in-Some.is c.remove-item.ensures.value in
    rw (← c.self.view_is) (entry_is (the_view c.self.inside) _ _ _ e c.into_record-rec.ensures)

pub returns-clause-token : goal.returns-clause-token
returns-clause-token c =
    let e = out_is _ _ _ _ _ _ c.first_ready.ensures c.deref.ensures.value c.in-Some.is c.remove-item.ensures.value in
    rw (← c.self.view_is) (token_is (the_view c.self.inside) _ _ _ _ _ e c.into_record-rec.ensures c.put.ensures c.remove-item.ensures.items)
