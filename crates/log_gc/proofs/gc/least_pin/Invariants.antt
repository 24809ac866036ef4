use Rattle.std.proofs.Common.{◌≡◌, take}
use Rattle.log_gc.specs.Floors.{lowest}
use Rattle.log_gc.proofs.gc.least_pin.Given as goal

abbrev pub invariant-loop-pin : goal.invariant-loop-pin
invariant-loop-pin l = l.least ≡ lowest l.bound (take l.pin-index l.pins)
