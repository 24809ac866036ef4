use Rattle.std.proofs.Common.{◌≤◌, drop}
use Rattle.toid_filter.specs.Champions.{dealt_from, sole_share, IsServedBy}
use Rattle.toid_filter.proofs.champions.Champions.serves.Given as goal

abbrev pub invariant-loop-share : goal.invariant-loop-share
invariant-loop-share l = record {
  found : IsServedBy (dealt_from l.found (drop l.share-index l.share-items) l.h) l.filter l.low l.until → IsServedBy (dealt_from sole_share l.share-items l.h) l.filter l.fn.from l.until;
  left : IsServedBy (dealt_from sole_share l.share-items l.h) l.filter l.fn.from l.until → IsServedBy (dealt_from l.found (drop l.share-index l.share-items) l.h) l.filter l.low l.until;
  starts : l.found.start ≤ l.low;
  some : 1 ≤ l.found.filters;
}
