use Rattle.std.proofs.Common.{◌≡◌, replicate}
use Rattle.causal_deps.specs.Counts.{zero_table}
use Rattle.abstract_step.proofs.begin.zero_tables.Given as goal

abbrev pub invariant-loop-done : goal.invariant-loop-done
invariant-loop-done l = l.tables ≡ replicate l._done (zero_table l.dcs)
