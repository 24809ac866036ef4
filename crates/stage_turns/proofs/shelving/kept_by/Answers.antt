use Rattle.stage_turns.proofs.ShelfLemmas.{kept_here, kept_later}
use Rattle.stage_turns.proofs.shelving.kept_by.Goals as goal

pub returns-in-Some : goal.returns-in-Some
returns-in-Some c = kept_here c.args.lid c.args.maintainers.now c.loop-maintainer.maintainer-index c.maintainer-item.result c.in-Some.rec.now c.loop-maintainer-test.true c.maintainer-item.is c.in-Some.ensures c.loop-maintainer.invariant

pub loop-maintainer-preserved : goal.loop-maintainer-preserved
loop-maintainer-preserved c = kept_later c.args.lid c.args.maintainers.now c.loop-maintainer.maintainer-index c.maintainer-item.result c.loop-maintainer-test.true c.maintainer-item.is c.in_default.ensures c.loop-maintainer.invariant
