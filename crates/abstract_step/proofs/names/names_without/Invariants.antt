use Rattle.std.proofs.Common.{◌≡◌, take}
use Rattle.abstract_log.specs.Steps.{names_without}
use Rattle.abstract_step.proofs.names.names_without.Given as goal

abbrev pub invariant-loop-name : goal.invariant-loop-name
invariant-loop-name l = l.rest ≡ names_without l.h l.t (take l.name-index l.names)
