use Rattle.std.proofs.Common.{◌≡◌, map, take}
use Rattle.token_queue.specs.declared.entry.Stamp.{Stamp}
use Rattle.stage_turns.proofs.stamping.places_of.Given as goal

abbrev pub invariant-loop-stamp : goal.invariant-loop-stamp
invariant-loop-stamp l = l.places ≡ map (λ (s : Stamp). s.place) (take l.stamp-index l.stamp-items)
