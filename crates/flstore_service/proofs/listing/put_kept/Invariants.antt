use Rattle.std.proofs.Common.{◌≡◌, fold}
use Rattle.flstore_service.specs.Running.{put_kept}
use Rattle.flstore_service.proofs.listing.put_kept.Given as goal

-- what comes next makes of the values so far what all make
abbrev pub invariant-loop-waits : goal.invariant-loop-waits
invariant-loop-waits l = fold (put_kept l.member) l.kept.entries l.waits-iterator ≡ fold (put_kept l.member) l.initial.kept.entries l.waiting.waiting
