use Rattle.std.proofs.Common.{◌≡◌}
use Rattle.toid_filter.specs.Filters.{cancelled}
use Rattle.stage_turns.proofs.MarkingLemmas.{mix}
use Rattle.stage_turns.proofs.marking.cancel_all.Given as goal

abbrev pub invariant-loop-at : goal.invariant-loop-at
invariant-loop-at l = l.filters ≡ mix cancelled l.at l.fn.filters
