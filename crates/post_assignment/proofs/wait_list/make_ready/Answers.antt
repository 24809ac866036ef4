use Rattle.std.proofs.Common.{length, ap, sym, ◌∙◌, arith, refl}
use Rattle.post_assignment.proofs.SplitLemmas.{all_high, moved, popped_first}
use Rattle.post_assignment.proofs.wait_list.make_ready.Goals as goal

pub returns-then-lid-bound-clause-above : goal.returns-then-lid-bound-clause-above
returns-then-lid-bound-clause-above c = all_high _ _ _ (sym c.in-Some.is ∙ c.first_key.ensures.first) c.if-lid-bound.true c.first_key.ensures.rising

pub loop-bound-preserved : goal.loop-bound-preserved
loop-bound-preserved c =
    let keys = popped_first _ _ _ _ (sym c.in-Some.is ∙ c.first_key.ensures.first) c.pop_first.ensures.removal c.pop_first.ensures.variant in
    let perm = rw c.unwrap.ensures at c.push.ensures.permutation in
    let heap = rw c.unwrap.ensures at c.push.ensures.heap_order in
    let len = rw c.unwrap.ensures at c.push.ensures.len in
    record {
      room = omega (arith, ap length keys, len, c.push.ensures.capacity, c.loop-bound.invariant.room);
      heap = λ was. heap (c.loop-bound.invariant.heap was);
      split = λ bounds was. moved bounds _ _ _ _ _ _ refl c.if-lid-bound.false perm (rw (sym keys) (c.loop-bound.invariant.split bounds was));
    }
