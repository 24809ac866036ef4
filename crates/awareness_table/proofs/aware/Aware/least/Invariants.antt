use Rattle.awareness_table.proofs.Known.{IsLeastBelow}
use Rattle.awareness_table.proofs.aware.Aware.least.Given as goal

abbrev pub invariant-loop-k : goal.invariant-loop-k
invariant-loop-k l = IsLeastBelow l.k l.self.table l.h l.least
