use Rattle.std.proofs.Common.{◌≡◌, drop}
use Rattle.std.specs.List.{filter_map}
use Rattle.abstract_log.specs.Answers.{past_with, found_places}
use Rattle.abstract_log.proofs.past.raise_found.Given as goal

abbrev pub invariant-loop-item : goal.invariant-loop-item
invariant-loop-item l = past_with l.past (filter_map found_places (drop l.item-index l.items)) ≡ past_with l.initial.past (filter_map found_places l.items)
