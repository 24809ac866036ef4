use Rattle.std.proofs.Common.{◌≡◌, map, take}
use Rattle.stage_turns.specs.Stamping.{event_of}
use Rattle.stage_turns.proofs.stamping.events_of.Given as goal

abbrev pub invariant-loop-stamp : goal.invariant-loop-stamp
invariant-loop-stamp l = l.events ≡ map (event_of l.dc) (take l.stamp-index l.stamp-items)
