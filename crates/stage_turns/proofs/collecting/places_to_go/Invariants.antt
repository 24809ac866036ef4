use Rattle.std.proofs.Common.{◌≡◌, map, take}
use Rattle.stage_world.specs.MoreTurns.{place_of_entry}
use Rattle.stage_turns.specs.Collecting.{to_go}
use Rattle.stage_turns.proofs.collecting.places_to_go.Given as goal

abbrev pub invariant-loop-slot : goal.invariant-loop-slot
invariant-loop-slot l = l.places ≡ map place_of_entry (to_go l.floor.floor l.table.table l.indexers (take l.slot-index l.entries))
