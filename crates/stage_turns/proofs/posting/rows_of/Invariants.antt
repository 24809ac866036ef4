use Rattle.std.proofs.Common.{◌≡◌, map, take}
use Rattle.stage_world.specs.MoreTurns.{row_made}
use Rattle.stage_turns.proofs.posting.rows_of.Given as goal

abbrev pub invariant-loop-slot : goal.invariant-loop-slot
invariant-loop-slot l = l.rows ≡ map row_made (take l.slot-index l.entries)
