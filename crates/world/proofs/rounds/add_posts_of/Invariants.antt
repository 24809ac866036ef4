use Rattle.std.proofs.Common.{◌≡◌, ◌++◌}
use Rattle.abstract_log.specs.declared.script.Step.TheVariants.{Post}
use Rattle.stage_world.specs.Opening.{numbered}
use Rattle.world.proofs.rounds.add_posts_of.Given as goal

abbrev pub invariant-loop-i : goal.invariant-loop-i
invariant-loop-i l = l.steps ≡ l.initial.steps ++ numbered (Post l.d l.m) l.i
