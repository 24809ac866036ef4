use Rattle.std.proofs.Common.{◌≡◌, ◌++◌}
use Rattle.abstract_log.specs.declared.script.Step.TheVariants.{Flush}
use Rattle.stage_world.specs.Opening.{numbered}
use Rattle.world.proofs.rounds.add_flushes.Given as goal

abbrev pub invariant-loop-b : goal.invariant-loop-b
invariant-loop-b l = l.steps ≡ l.initial.steps ++ numbered (Flush l.d) l.b
