use Rattle.std.proofs.Common.{◌≡◌}
use Rattle.flstore_service.specs.Running.{fresh_upto}
use Rattle.flstore_service.proofs.service.Service.start.Given as goal

-- there are so many that have nothing
abbrev pub invariant-loop-number : goal.invariant-loop-number
invariant-loop-number l = l.members ≡ fresh_upto l.epochs l.number
