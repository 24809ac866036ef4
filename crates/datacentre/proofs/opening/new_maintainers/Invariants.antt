use Rattle.std.proofs.Common.{◌≡◌}
use Rattle.maintainer.specs.Maintainers.{empty}
use Rattle.stage_world.specs.Opening.{numbered}
use Rattle.datacentre.proofs.opening.new_maintainers.Given as goal

abbrev pub invariant-loop-number : goal.invariant-loop-number
invariant-loop-number l = l.maintainers ≡ numbered (λ i. empty i l.epochs) l.number
