use Rattle.std.proofs.Common.{◌≡◌, take}
use Rattle.toid_filter.proofs.champions.Champions.copy.Given as goal

abbrev pub invariant-loop-shares : goal.invariant-loop-shares
invariant-loop-shares l = l.hosts ≡ take l.shares-index l.shares-items
