use Rattle.std.proofs.Common.{◌≡◌}
use Rattle.stage_world.specs.MoreTurns.{new_queue}
use Rattle.stage_world.specs.Opening.{numbered}
use Rattle.datacentre.proofs.opening.new_queues.Given as goal

abbrev pub invariant-loop-number : goal.invariant-loop-number
invariant-loop-number l = l.queues ≡ numbered (λ i. new_queue i l.epochs) l.number
