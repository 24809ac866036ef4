use Rattle.std.proofs.Common.{◌≡◌, ◌++◌, [], fold, drop}
use Rattle.flstore_service.specs.Running.{places_of, put_places}
use Rattle.flstore_service.proofs.listing.places_by_position.Given as goal

-- the members that come next make of the places so far what all make
abbrev pub invariant-loop-member : goal.invariant-loop-member
invariant-loop-member l = fold put_places l.places.entries (drop l.member-index l.service.members) ≡ fold put_places [] l.service.members

-- those listed stand before those that are left
abbrev pub invariant-loop-place : goal.invariant-loop-place
invariant-loop-place l = l.listed ++ l.place-iterator ≡ places_of l.service
