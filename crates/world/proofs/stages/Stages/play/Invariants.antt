use Rattle.std.proofs.Common.{take}
use Rattle.world.specs.Settled.{Plays}
use Rattle.world.proofs.SettledLemmas.{AreThese}
use Rattle.world.proofs.stages.Stages.play.Given as goal

abbrev pub invariant-loop-step : goal.invariant-loop-step
invariant-loop-step l = Plays (AreThese (take l.step-index l.steps)) l.initial.self l.self
