use Rattle.std.proofs.Common.{◌≡◌, take}
use Rattle.toid_filter.specs.Champions.{last_of_shares, sole_share}
use Rattle.toid_filter.proofs.champions.Champions.last_share.Given as goal

abbrev pub invariant-loop-share : goal.invariant-loop-share
invariant-loop-share l = l.found ≡ last_of_shares sole_share (take l.share-index l.share-items)
