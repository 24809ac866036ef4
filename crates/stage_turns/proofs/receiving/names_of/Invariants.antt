use Rattle.std.proofs.Common.{◌≡◌, take}
use Rattle.stage_world.specs.MoreTurns.{names_of}
use Rattle.stage_turns.proofs.receiving.names_of.Given as goal

abbrev pub invariant-loop-rec : goal.invariant-loop-rec
invariant-loop-rec l = l.names ≡ names_of (take l.rec-index l.rec-items)
