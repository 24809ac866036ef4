use Rattle.std.proofs.Common.{◌≡◌, ◌++◌}
use Rattle.std.specs.List.{flat_map}
use Rattle.abstract_log.specs.declared.script.Step.TheVariants.{Post}
use Rattle.stage_world.specs.Opening.{numbered}
use Rattle.stage_world.specs.Settling.{below}
use Rattle.world.proofs.rounds.add_posts.Given as goal

abbrev pub invariant-loop-m : goal.invariant-loop-m
invariant-loop-m l = l.steps ≡ l.initial.steps ++ flat_map (λ m. numbered (Post l.d m) l.indexers) (below l.m)
