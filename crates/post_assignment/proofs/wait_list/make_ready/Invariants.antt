use Rattle.std.proofs.Common.{◌+◌, ◌≤◌, length, ℕ, Option}
use Rattle.std.specs.Ordering.{nat_cmp}
use Rattle.std.specs.BinaryHeap.{KeepsHeap, heap_capacity, heap_items, heap_len}
use Rattle.post_assignment.specs.Waiting.{IsSplit}
use Rattle.post_assignment.proofs.wait_list.make_ready.Given as goal

abbrev pub invariant-loop-bound : goal.invariant-loop-bound
invariant-loop-bound l = record {
  room : length l.by_bound.keys + heap_len l.ready ≤ heap_capacity l.ready;
  heap : KeepsHeap (λ x y. nat_cmp y.0 x.0) (heap_items l.initial.ready) (heap_items l.ready);
  split : (bounds : ℕ → Option ℕ) → IsSplit bounds l.initial.by_bound.keys (heap_items l.initial.ready) l.lid → IsSplit bounds l.by_bound.keys (heap_items l.ready) l.lid;
}

abbrev pub decreases-loop-bound : goal.decreases-loop-bound
decreases-loop-bound l = length l.by_bound.keys
