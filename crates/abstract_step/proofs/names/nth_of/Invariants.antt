use Rattle.std.proofs.Common.{◌≡◌, drop}
use Rattle.causal_deps.specs.Logs.{records_of, record_at}
use Rattle.abstract_step.proofs.names.nth_of.Given as goal

abbrev pub invariant-loop-rec : goal.invariant-loop-rec
invariant-loop-rec l = record_at (records_of l.h (drop l.rec-index l.log)) l.left ≡ record_at (records_of l.h l.log) l.t
