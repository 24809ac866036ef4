use Rattle.std.proofs.Common.{◌≡◌, ◌+◌, ◌≤◌, length, vec_capacity, vec_len}
use Rattle.toid_filter.proofs.Running.{IsMoving}
use Rattle.toid_filter.proofs.filter.pass_first.Given as goal

abbrev pub invariant-loop-done : goal.invariant-loop-done
invariant-loop-done l = record {
  moving : IsMoving l.h l.t l.initial.held l.initial.reached l.initial.out.items l._done l.held l.reached l.out.items;
  len : vec_len l.out ≡ vec_len l.initial.out + l._done;
  room : vec_len l.initial.out + l.count ≤ vec_capacity l.out;
  width : length l.reached ≡ length l.initial.reached;
}
