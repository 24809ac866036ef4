use Rattle.std.proofs.Common.{ℕ, ◌<◌, ◌≤◌}
use Rattle.causal_deps.specs.Counts.{entry_of}
use Rattle.abstract_step.proofs.collecting.is_known_everywhere.Given as goal

abbrev pub invariant-loop-k : goal.invariant-loop-k
invariant-loop-k l = (j : ℕ) → j < l.k → l.rec.toid ≤ entry_of l.table j l.rec.host
