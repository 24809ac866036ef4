use Rattle.std.proofs.Common.{◌≡◌, true, take}
use Rattle.std.specs.List.{list_all}
use Rattle.stage_world.specs.MoreTurns.{same_counts}
use Rattle.stage_world.specs.Stages.{Stages}
use Rattle.world.specs.Settled.{AreKnown}
use Rattle.world.proofs.settling_state.are_agreed.Given as goal

abbrev pub invariant-loop-datacentre : goal.invariant-loop-datacentre
invariant-loop-datacentre l = (z : Stages) → AreKnown z l.datacentres → list_all (λ x. list_all (λ y. same_counts x.token.counts y.token.counts) z.datacentres) (take l.datacentre-index z.datacentres) ≡ true
