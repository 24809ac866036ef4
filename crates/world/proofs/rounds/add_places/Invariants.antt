use Rattle.std.proofs.Common.{◌≡◌, ◌++◌}
use Rattle.std.specs.List.{flat_map}
use Rattle.abstract_log.specs.declared.script.Step.TheVariants.{Place}
use Rattle.stage_world.specs.Opening.{numbered}
use Rattle.stage_world.specs.Settling.{below}
use Rattle.world.proofs.rounds.add_places.Given as goal

abbrev pub invariant-loop-q : goal.invariant-loop-q
invariant-loop-q l = l.steps ≡ l.initial.steps ++ flat_map (λ q. numbered (Place l.d q) l.maintainers) (below l.q)
