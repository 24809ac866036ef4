use Rattle.std.proofs.Common.{◌≡◌, map, take}
use Rattle.abstract_log.specs.declared.event.Event.TheVariants.{Collect}
use Rattle.stage_turns.proofs.collecting.collect_events.Given as goal

abbrev pub invariant-loop-lid : goal.invariant-loop-lid
invariant-loop-lid l = l.events ≡ map (Collect l.dc) (take l.lid-index l.lids)
