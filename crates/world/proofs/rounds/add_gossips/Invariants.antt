use Rattle.std.proofs.Common.{◌≡◌, ◌++◌}
use Rattle.std.specs.List.{flat_map}
use Rattle.abstract_log.specs.declared.script.Step.TheVariants.{Gossip}
use Rattle.stage_world.specs.Opening.{numbered}
use Rattle.stage_world.specs.Settling.{below}
use Rattle.world.proofs.rounds.add_gossips.Given as goal

abbrev pub invariant-loop-m : goal.invariant-loop-m
invariant-loop-m l = l.steps ≡ l.initial.steps ++ flat_map (λ m. numbered (Gossip l.d m) l.maintainers) (below l.m)
