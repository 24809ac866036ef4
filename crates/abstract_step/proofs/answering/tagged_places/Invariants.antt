use Rattle.std.proofs.Common.{◌≡◌, ◌++◌, ◌+◌, drop}
use Rattle.abstract_log.specs.Answers.{places_with}
use Rattle.abstract_step.proofs.answering.tagged_places.Given as goal

abbrev pub invariant-loop-at : goal.invariant-loop-at
invariant-loop-at l = l.places.items ++ places_with l.tag (l.at + 1) (drop l.at l.log) ≡ places_with l.tag 1 l.log
