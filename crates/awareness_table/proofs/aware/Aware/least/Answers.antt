use Rattle.awareness_table.proofs.Known.{least_more}
use Rattle.awareness_table.proofs.aware.Aware.least.Goals as goal

pub loop-k-preserved : goal.loop-k-preserved
loop-k-preserved c = least_more c.loop-k.k c.args.self.now.table c.args.h c.loop-k.least c.entry.result c.min-least.result c.entry.ensures c.min-least.ensures c.loop-k.invariant
