use Rattle.std.proofs.Common.{length, ap, arith}
use Rattle.post_assignment.specs.declared.wait_list.Waiting.{Waiting}
use Rattle.post_assignment.proofs.SplitLemmas.{at_most_one}
use Rattle.post_assignment.proofs.TiedLemmas.{came_back, none_is, seen_back, tied_grown, tied_same, value_found}
use Rattle.post_assignment.proofs.wait_list.WaitList.push.Goals as goal

pub invariant_of-self-in-Ok-insert : goal.invariant_of-self-in-Ok-insert
invariant_of-self-in-Ok-insert g c = (
  tied_grown _ _ _ _ _ _ _ _ _ _ c.self.invariant.0 c.in_default-insert_last.ensures.ok c.insert_last.ensures.sorted c.in-Ok-insert.ensures.keys c.reserve.ensures.items c.in-Some.ensures.1,
  omega (arith, c.in-Ok.ensures.ok, c.in-Ok-insert.ensures.len, at_most_one c.in-Ok-insert.field-0, c.len.ensures.len),
)

pub unreachable-requires : goal.unreachable-requires
unreachable-requires g c =
    let back = came_back _ _ _ _ _ _ c.self.invariant.0.early c.in_default-insert_last.ensures.ok c.remove.ensures.value c.remove.ensures.entries in
    none_is _ _ c.in_default-remove.is back.found

pub invariant_of-self-in-Err-insert : goal.invariant_of-self-in-Err-insert
invariant_of-self-in-Err-insert g c =
    let back = came_back _ _ _ _ _ _ c.self.invariant.0.early c.in_default-insert_last.ensures.ok c.remove.ensures.value c.remove.ensures.entries in (
      tied_same _ _ _ _ _ _ _ _ c.self.invariant.0 back.same c.in-Err-insert.ensures.err c.reserve.ensures.items,
      omega (arith, ap length c.in-Err-insert.ensures.err, c.reserve.ensures.len, c.reserve.ensures.capacity, c.self.invariant.1),
    )

pub returns-in-Some-remove-clause-err : goal.returns-in-Some-remove-clause-err
returns-in-Some-remove-clause-err g c =
    let back = came_back _ _ _ _ _ _ c.self.invariant.0.early c.in_default-insert_last.ensures.ok c.remove.ensures.value c.remove.ensures.entries in
    seen_back _ _ _ _ c.self.view_is back.same

pub returns-in-Some-remove-clause-back : goal.returns-in-Some-remove-clause-back
returns-in-Some-remove-clause-back g c =
    let back = came_back _ _ _ _ _ _ c.self.invariant.0.early c.in_default-insert_last.ensures.ok c.remove.ensures.value c.remove.ensures.entries in
    ap (λ (x : Waiting g.row.T.Denot). x.value) (value_found _ _ _ c.in-Some-remove.is back.found)
