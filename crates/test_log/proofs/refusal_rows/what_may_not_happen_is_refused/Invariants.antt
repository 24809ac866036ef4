use Rattle.abstract_log.specs.Shapes.{IsShaped}
use Rattle.test_log.proofs.refusal_rows.what_may_not_happen_is_refused.Given as goal

abbrev pub invariant-loop-row : goal.invariant-loop-row
invariant-loop-row g l = IsShaped l.log

abbrev pub invariant-loop-case : goal.invariant-loop-case
invariant-loop-case g l = IsShaped l.log
