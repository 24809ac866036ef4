use Rattle.std.proofs.Common.{◌≡◌}
use Rattle.abstract_log.specs.Steps.{name_before}
use Rattle.abstract_step.proofs.Inserting.{IsLeft}
use Rattle.abstract_step.proofs.names.insert_name.Given as goal

abbrev pub invariant-loop-at : goal.invariant-loop-at
invariant-loop-at l = (l.names.items ≡ l.initial.names.items) × IsLeft name_before l.name l.names.items l.at
