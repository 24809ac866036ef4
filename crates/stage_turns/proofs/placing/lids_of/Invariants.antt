use Rattle.std.proofs.Common.{◌≡◌, map, take}
use Rattle.stage_turns.specs.Placing.{lid_of}
use Rattle.stage_turns.proofs.placing.lids_of.Given as goal

abbrev pub invariant-loop-entry : goal.invariant-loop-entry
invariant-loop-entry l = l.lids ≡ map lid_of (take l.entry-index l.entry-items)
