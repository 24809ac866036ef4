use Rattle.std.proofs.Common.{◌≡◌, take}
use Rattle.stage_world.specs.Settling.{rounds}
use Rattle.stage_world.specs.Stages.{Stages}
use Rattle.world.specs.Settled.{AreKnown}
use Rattle.world.proofs.settling_state.rounds.Given as goal

abbrev pub invariant-loop-d : goal.invariant-loop-d
invariant-loop-d l = (z : Stages) → AreKnown z l.datacentres → l.steps ≡ rounds z (take l.d-index l.ds)
