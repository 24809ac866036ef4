use Rattle.std.proofs.Common.{◌≡◌, map, take}
use Rattle.abstract_log.specs.Answers.{found_at}
use Rattle.abstract_step.proofs.answering.items.Given as goal

abbrev pub invariant-loop-key : goal.invariant-loop-key
invariant-loop-key l = l.items ≡ map (found_at l.log l.s) (take l.key-index l.keys)
