use Rattle.std.proofs.Common.{take}
use Rattle.world.specs.Settled.{Plays}
use Rattle.world.proofs.SettledLemmas.{AreErrands}
use Rattle.world.proofs.stages.Stages.exchange.Given as goal

abbrev pub invariant-loop-errand : goal.invariant-loop-errand
invariant-loop-errand l = Plays (AreErrands (take l.errand-index l.errand-items)) l.initial.self l.self
