use Rattle.std.proofs.Common.{◌≡◌, false}
use Rattle.stage_world.specs.Opening.{numbered}
use Rattle.datacentre.proofs.opening.new_senders.Given as goal

abbrev pub invariant-loop-number : goal.invariant-loop-number
invariant-loop-number l = l.senders ≡ numbered (λ k. record { dc = l.dc; number = k; upgraded = false }) l.number
