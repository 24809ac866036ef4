use Rattle.std.proofs.Common.{◌≡◌, take}
use Rattle.toid_filter.proofs.champions.copy_shares.Given as goal

abbrev pub invariant-loop-share : goal.invariant-loop-share
invariant-loop-share l = l.copy ≡ take l.share-index l.share-items
