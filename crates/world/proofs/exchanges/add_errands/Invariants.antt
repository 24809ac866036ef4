use Rattle.std.proofs.Common.{◌≡◌, ◌++◌}
use Rattle.world.specs.Settled.{errands_from}
use Rattle.world.proofs.exchanges.add_errands.Given as goal

abbrev pub invariant-loop-number : goal.invariant-loop-number
invariant-loop-number l = l.them ≡ l.initial.them ++ errands_from l.d l.number l.senders
