use Rattle.std.proofs.Common.{◌≡◌, take}
use Rattle.abstract_step.proofs.comparing.same_items.Given as goal

abbrev pub invariant-loop-at : goal.invariant-loop-at
invariant-loop-at l = take l.at l.items ≡ take l.at l.others
