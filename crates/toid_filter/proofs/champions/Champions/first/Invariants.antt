use Rattle.std.proofs.Common.{◌≡◌}
use Rattle.toid_filter.specs.Champions.{first_map}
use Rattle.toid_filter.proofs.champions.Champions.first.Given as goal

abbrev pub invariant-loop : goal.invariant-loop
invariant-loop l = l.hosts ≡ first_map l.counter l.filters
