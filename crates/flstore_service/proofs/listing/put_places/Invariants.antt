use Rattle.std.proofs.Common.{◌≡◌, fold, drop}
use Rattle.flstore_service.specs.Running.{put_place}
use Rattle.flstore_service.proofs.listing.put_places.Given as goal

-- the entries that come next make of the places so far what all make
abbrev pub invariant-loop-entry : goal.invariant-loop-entry
invariant-loop-entry l = fold put_place l.places.entries (drop l.entry-index l.entries) ≡ fold put_place l.initial.places.entries l.entries
