use Rattle.std.proofs.Common.{◌≡◌, ◌≤◌, drop}
use Rattle.toid_filter.specs.Champions.{share_from, sole_share}
use Rattle.toid_filter.proofs.champions.Champions.champion.Given as goal

abbrev pub invariant-loop-share : goal.invariant-loop-share
invariant-loop-share l = record {
  same : share_from l.found (drop l.share-index l.share-items) l.t ≡ share_from sole_share l.share-items l.t;
  starts : l.found.start ≤ l.t;
  some : 1 ≤ l.found.filters;
}
