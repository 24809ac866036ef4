use Rattle.std.proofs.Common.{◌≡◌}
use Rattle.std.specs.List.{flat_map}
use Rattle.stage_world.specs.Settling.{below}
use Rattle.stage_world.specs.Stages.{Stages}
use Rattle.stage_world.specs.Whole.{datacentre_at}
use Rattle.world.specs.Settled.{AreKnown, errands_from}
use Rattle.world.proofs.exchanges.errands.Given as goal

abbrev pub invariant-loop-number : goal.invariant-loop-number
invariant-loop-number l = (z : Stages) → AreKnown z l.datacentres → l.them ≡ flat_map (λ d. errands_from d l.dcs (datacentre_at z d).senders) (below l.number)
