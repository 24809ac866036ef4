use Rattle.datacentre.proofs.LeftLemmas.{AreTaken}
use Rattle.datacentre.proofs.leaving.put_outboxes.Given as goal

abbrev pub invariant-loop-m : goal.invariant-loop-m
invariant-loop-m l = AreTaken l.initial.rows l.rows l.initial.queue l.queue l.m
