use Rattle.std.proofs.Common.{◌≡◌, ◌++◌}
use Rattle.world.specs.Settled.{ring_from}
use Rattle.world.proofs.rounds.add_ring.Given as goal

abbrev pub invariant-loop-i : goal.invariant-loop-i
invariant-loop-i l = l.steps ≡ l.initial.steps ++ ring_from l.d l.holder l.queues l.i
