use Rattle.std.proofs.Common.{◌≡◌, ◌++◌}
use Rattle.stage_world.specs.Opening.{numbered}
use Rattle.world.proofs.exchanges.add_senders.Given as goal

abbrev pub invariant-loop-sender : goal.invariant-loop-sender
invariant-loop-sender l = l.them ≡ l.initial.them ++ numbered (λ k. record { from = l.from; to = l.to; sender = k }) l.sender
