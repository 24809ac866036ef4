use Rattle.std.proofs.Common.{◌≡◌, nat_lt}
use Rattle.abstract_step.proofs.Inserting.{IsLeft}
use Rattle.abstract_step.proofs.collecting.insert_lid.Given as goal

abbrev pub invariant-loop-at : goal.invariant-loop-at
invariant-loop-at l = (l.lids.items ≡ l.initial.lids.items) × IsLeft nat_lt l.p l.lids.items l.at
