use Rattle.std.proofs.Common.{◌-◌, ◌^◌}
use Rattle.maintainer.specs.Maintainers.{IsFilledBy}
use Rattle.maintainer.proofs.PassLemmas.{IsPassing}
use Rattle.maintainer.proofs.slot.mark_past.Given as goal

abbrev pub invariant-loop-number : goal.invariant-loop-number
invariant-loop-number g l = IsPassing l.epochs l.number (IsFilledBy l.slots l.gone) l.mark

abbrev pub decreases-loop-number : goal.decreases-loop-number
decreases-loop-number g l = 2 ^ 48 - l.mark
