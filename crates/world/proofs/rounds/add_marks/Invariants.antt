use Rattle.std.proofs.Common.{◌≡◌, ◌++◌}
use Rattle.abstract_log.specs.declared.script.Step.TheVariants.{Mark}
use Rattle.stage_world.specs.Opening.{numbered}
use Rattle.world.proofs.rounds.add_marks.Given as goal

abbrev pub invariant-loop-done : goal.invariant-loop-done
invariant-loop-done l = l.steps ≡ l.initial.steps ++ numbered (λ _. Mark l.d) l._done
