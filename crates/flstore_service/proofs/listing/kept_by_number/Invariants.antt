use Rattle.std.proofs.Common.{◌≡◌, ◌++◌, [], fold, drop}
use Rattle.flstore_service.specs.Running.{all_kept, put_all_kept}
use Rattle.flstore_service.proofs.listing.kept_by_number.Given as goal

-- the members that come next make of the values so far what all make
abbrev pub invariant-loop-member : goal.invariant-loop-member
invariant-loop-member l = fold put_all_kept l.kept.entries (drop l.member-index l.service.members) ≡ fold put_all_kept [] l.service.members

-- those listed stand before those that are left
abbrev pub invariant-loop-value : goal.invariant-loop-value
invariant-loop-value l = l.listed ++ l.value-iterator ≡ all_kept l.service
