use Rattle.std.proofs.Common.{◌≡◌, take}
use Rattle.std.specs.List.{fold}
use Rattle.stage_world.specs.Leaving.{with_place}
use Rattle.datacentre.proofs.leaving.put_places.Given as goal

abbrev pub invariant-loop-place : goal.invariant-loop-place
invariant-loop-place l = l.rows ≡ fold with_place l.initial.rows (take l.place-index l.place-items)
