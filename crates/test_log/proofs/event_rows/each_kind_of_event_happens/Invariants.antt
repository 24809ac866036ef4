use Rattle.abstract_log.specs.Shapes.{IsShaped}
use Rattle.test_log.proofs.event_rows.each_kind_of_event_happens.Given as goal

abbrev pub invariant-loop-row : goal.invariant-loop-row
invariant-loop-row g l = IsShaped l.log
