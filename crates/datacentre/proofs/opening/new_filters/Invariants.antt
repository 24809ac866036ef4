use Rattle.std.proofs.Common.{◌≡◌}
use Rattle.toid_filter.specs.Filters.{new_filter}
use Rattle.stage_world.specs.Opening.{numbered}
use Rattle.datacentre.proofs.opening.new_filters.Given as goal

abbrev pub invariant-loop-number : goal.invariant-loop-number
invariant-loop-number l = l.filters ≡ numbered (λ i. new_filter i l.map) l.number
