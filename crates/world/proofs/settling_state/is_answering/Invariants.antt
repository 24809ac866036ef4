use Rattle.std.proofs.Common.{◌≡◌, false, take}
use Rattle.std.specs.List.{list_any}
use Rattle.stage_world.specs.Settling.{has_unanswered}
use Rattle.stage_world.specs.Stages.{Stages}
use Rattle.world.specs.Settled.{AreKnown}
use Rattle.world.proofs.settling_state.is_answering.Given as goal

abbrev pub invariant-loop-datacentre : goal.invariant-loop-datacentre
invariant-loop-datacentre l = (z : Stages) → AreKnown z l.datacentres → list_any has_unanswered (take l.datacentre-index z.datacentres) ≡ false
