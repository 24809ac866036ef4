use Rattle.maintainer.proofs.PassLemmas.{passed_on}
use Rattle.maintainer.proofs.slot.mark_past.Goals as goal

pub loop-number-smaller : goal.loop-number-smaller
loop-number-smaller g c = (passed_on _ _ _ _ _ c.loop-number.invariant c.next_own-next.ensures.least c.requires.small (c.is_filled.ensures.0 c.if-not-is_filled.false)).1

pub loop-number-preserved : goal.loop-number-preserved
loop-number-preserved g c = (passed_on _ _ _ _ _ c.loop-number.invariant c.next_own-next.ensures.least c.requires.small (c.is_filled.ensures.0 c.if-not-is_filled.false)).0
