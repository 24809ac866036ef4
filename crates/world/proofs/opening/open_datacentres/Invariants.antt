use Rattle.std.proofs.Common.{◌≡◌}
use Rattle.stage_world.specs.Opening.{numbered}
use Rattle.world.specs.Showing.{opened_at, states_from}
use Rattle.world.proofs.opening.open_datacentres.Given as goal

abbrev pub invariant-loop-number : goal.invariant-loop-number
invariant-loop-number l = l.datacentres ≡ states_from 0 (numbered (opened_at l.script) l.number)
