use Rattle.std.proofs.Common.{arith}
use Rattle.stage_turns.proofs.CollectingLemmas.{still_there}
use Rattle.stage_turns.proofs.collecting.let_go.Goals as goal

pub collect-requires : goal.collect-requires
collect-requires c = still_there _ _ _ _ _ c.as_slice-lid-items.ensures (omega (arith, c.loop-lid-test.true)) c.requires.rising c.requires.there c.loop-lid.invariant
