use Rattle.std.proofs.Common.{◌≡◌, [], replicate}
use Rattle.abstract_step.proofs.lists.empty_lists.Given as goal

abbrev pub invariant-loop-done : goal.invariant-loop-done
invariant-loop-done g l = l.lists ≡ replicate l._done []
