use Rattle.std.proofs.Common.{◌≡◌, ◌++◌}
use Rattle.abstract_log.specs.declared.script.Step.TheVariants.{Gossip}
use Rattle.stage_world.specs.Opening.{numbered}
use Rattle.world.proofs.rounds.add_gossips_of.Given as goal

abbrev pub invariant-loop-k : goal.invariant-loop-k
invariant-loop-k l = l.steps ≡ l.initial.steps ++ numbered (Gossip l.d l.m) l.k
