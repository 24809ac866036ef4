use Rattle.std.proofs.Common.{take}
use Rattle.world.specs.Taking.{HasTaken, taken_of}
use Rattle.world.proofs.replaying.opened.Given as goal

abbrev pub invariant-loop-step : goal.invariant-loop-step
invariant-loop-step l = HasTaken l.script (taken_of (take l.step-index l.step-items)) l.stages
