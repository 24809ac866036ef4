use Rattle.std.proofs.Common.{◌≡◌, ◌++◌, map, take}
use Rattle.std.specs.List.{flat_map}
use Rattle.causal_deps.specs.declared.record.Item.TheVariants.{External}
use Rattle.toid_filter.specs.Filters.{activated, handed_out}
use Rattle.stage_turns.proofs.MarkingLemmas.{mix}
use Rattle.stage_turns.proofs.marking.activate_all.Given as goal

abbrev pub invariant-loop-at : goal.invariant-loop-at
invariant-loop-at l = record {
  filters : l.filters ≡ mix (activated l.grown) l.at l.fn.filters;
  handed : l.handed ≡ l.fn.handed ++ map External (flat_map (handed_out l.grown) (take l.at l.fn.filters));
}
