use Rattle.std.proofs.Common.{ap}
use Rattle.awareness_table.specs.Awareness.{Awareness}
use Rattle.awareness_table.proofs.Known.{merged_within}
use Rattle.awareness_table.proofs.aware.Aware.merge.Goals as goal

pub invariant_of-self : goal.invariant_of-self
invariant_of-self c = merged_within c.self.inside.dc c.self.inside.table c.args.table.now c.merge.new.self c.args.self.now.table (ap (λ (a : Awareness). a.table) c.self.view_is) c.self.invariant c.requires c.merge.ensures
