use Rattle.std.proofs.Common.{◌≡◌, map, take}
use Rattle.stage_turns.specs.Collecting.{lid_of_place}
use Rattle.stage_turns.proofs.collecting.lids_of.Given as goal

abbrev pub invariant-loop-place : goal.invariant-loop-place
invariant-loop-place l = l.lids ≡ map lid_of_place (take l.place-index l.places)
