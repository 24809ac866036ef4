use Rattle.std.proofs.Common.{ap, map, ◌∙◌}
use Rattle.abstract_log.specs.declared.event.Event.TheVariants.{Collect}
use Rattle.stage_world.specs.MoreTurns.{collected_outcome, place_of_entry}
use Rattle.stage_turns.proofs.CollectingLemmas.{are_going, has_some_map}
use Rattle.stage_turns.proofs.collecting.collect.Goals as goal

pub let_go-requires-clause-there : goal.let_go-requires-clause-there
let_go-requires-clause-there c = (are_going c.args.floor.now.floor c.args.table.now.table _ _ _ _ _ _ c.as_slice.ensures c.entries.ensures.value c.entries.ensures.rising c.in_ok-places.ensures c.in_ok-lids.ensures).there

pub let_go-requires-clause-rising : goal.let_go-requires-clause-rising
let_go-requires-clause-rising c = (are_going c.args.floor.now.floor c.args.table.now.table _ _ _ _ _ _ c.as_slice.ensures c.entries.ensures.value c.entries.ensures.rising c.in_ok-places.ensures c.in_ok-lids.ensures).rising

pub returns-clause-outcome : goal.returns-clause-outcome
returns-clause-outcome c = c.collected_at.ensures ∙ ap collected_outcome (are_going c.args.floor.now.floor c.args.table.now.table _ _ _ _ _ _ c.as_slice.ensures c.entries.ensures.value c.entries.ensures.rising c.in_ok-places.ensures c.in_ok-lids.ensures).lids

pub returns-clause-events : goal.returns-clause-events
returns-clause-events c = c.in_ok-events.ensures ∙ ap (map (Collect c.args.dc)) (are_going c.args.floor.now.floor c.args.table.now.table _ _ _ _ _ _ c.as_slice.ensures c.entries.ensures.value c.entries.ensures.rising c.in_ok-places.ensures c.in_ok-lids.ensures).lids

pub returns-clause-changed : goal.returns-clause-changed
returns-clause-changed c = c.has_some-changed.ensures ∙ has_some_map place_of_entry _ _ (are_going c.args.floor.now.floor c.args.table.now.table _ _ _ _ _ _ c.as_slice.ensures c.entries.ensures.value c.entries.ensures.rising c.in_ok-places.ensures c.in_ok-lids.ensures).names
