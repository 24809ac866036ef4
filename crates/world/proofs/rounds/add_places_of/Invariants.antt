use Rattle.std.proofs.Common.{◌≡◌, ◌++◌}
use Rattle.abstract_log.specs.declared.script.Step.TheVariants.{Place}
use Rattle.stage_world.specs.Opening.{numbered}
use Rattle.world.proofs.rounds.add_places_of.Given as goal

abbrev pub invariant-loop-m : goal.invariant-loop-m
invariant-loop-m l = l.steps ≡ l.initial.steps ++ numbered (Place l.d l.q) l.m
