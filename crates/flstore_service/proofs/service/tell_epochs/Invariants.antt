use Rattle.std.proofs.Common.{◌≡◌, ◌++◌, drop, map, take}
use Rattle.flstore_service.specs.Running.{told_epochs}
use Rattle.flstore_service.proofs.service.tell_epochs.Given as goal

-- those so far know the epochs, and the others are as they were
abbrev pub invariant-loop-m : goal.invariant-loop-m
invariant-loop-m l = l.members ≡ map (told_epochs l.epochs) (take l.m l.initial.members) ++ drop l.m l.initial.members
