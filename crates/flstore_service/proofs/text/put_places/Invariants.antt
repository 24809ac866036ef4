use Rattle.std.proofs.Common.{◌≡◌, ◌++◌, take}
use Rattle.flstore_service.specs.Text.{place_lines}
use Rattle.flstore_service.proofs.text.put_places.Given as goal

-- those so far are written
abbrev pub invariant-loop-place : goal.invariant-loop-place
invariant-loop-place l = l.text ≡ l.initial.text ++ place_lines (take l.place-index l.places)
