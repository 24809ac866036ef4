use Rattle.stage_turns.proofs.ShelfLemmas.{kept_then, kept_else, kept_none}
use Rattle.stage_turns.proofs.shelving.kept.Goals as goal

pub returns-then-slot-lid : goal.returns-then-slot-lid
returns-then-slot-lid c = kept_then c.args.lid c.args.maintainer.now.entries c.in-Some.slot.now c.next_after.ensures.rising c.requires c.in-Some.ensures.value c.if-slot-lid.true

pub returns-else-slot-lid : goal.returns-else-slot-lid
returns-else-slot-lid c = kept_else c.args.lid c.args.maintainer.now.entries c.in-Some.slot.now c.next_after.ensures.rising c.requires c.in-Some.ensures.value c.if-slot-lid.false

pub returns-in-None : goal.returns-in-None
returns-in-None c = kept_none c.args.lid c.args.maintainer.now.entries c.next_after.ensures.rising c.requires c.in-None.ensures.value
