use Rattle.std.proofs.Common.{◌≡◌}
use Rattle.stage_turns.proofs.MarkingLemmas.{mix}
use Rattle.datacentre.specs.Seen.{upgraded}
use Rattle.datacentre.proofs.upgrading.upgrade_all.Given as goal

abbrev pub invariant-loop-at : goal.invariant-loop-at
invariant-loop-at l = l.senders ≡ mix upgraded l.at l.fn.senders
