use Rattle.std.proofs.Common.{◌≡◌, ◌++◌, ◌%◌}
use Rattle.abstract_log.specs.declared.script.Step.TheVariants.{Pass}
use Rattle.stage_world.specs.Opening.{numbered}
use Rattle.world.proofs.rounds.add_passes.Given as goal

abbrev pub invariant-loop-f : goal.invariant-loop-f
invariant-loop-f l = l.steps ≡ l.initial.steps ++ numbered (λ f. Pass l.d f (f % l.queues)) l.f
