use Rattle.std.proofs.Common.{◌≡◌, drop}
use Rattle.abstract_log.specs.Steps.{names_with}
use Rattle.abstract_step.proofs.names.names_with.Given as goal

abbrev pub invariant-loop-name : goal.invariant-loop-name
invariant-loop-name l = names_with l.log l.all.items (drop l.name-index l.names) ≡ names_with l.log l.waiting l.names
