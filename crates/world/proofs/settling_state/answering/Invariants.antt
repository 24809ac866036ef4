use Rattle.std.proofs.Common.{◌≡◌}
use Rattle.std.specs.List.{filter}
use Rattle.stage_world.specs.Settling.{below, has_unanswered}
use Rattle.stage_world.specs.Stages.{Stages}
use Rattle.stage_world.specs.Whole.{datacentre_at}
use Rattle.world.specs.Settled.{AreKnown}
use Rattle.world.proofs.settling_state.answering.Given as goal

abbrev pub invariant-loop-number : goal.invariant-loop-number
invariant-loop-number l = (z : Stages) → AreKnown z l.datacentres → l.ds ≡ filter (λ d. has_unanswered (datacentre_at z d)) (below l.number)
