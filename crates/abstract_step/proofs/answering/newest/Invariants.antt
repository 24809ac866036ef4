use Rattle.std.proofs.Common.{◌≡◌, ◌≤◌, length}
use Rattle.abstract_log.specs.Answers.{newest}
use Rattle.abstract_step.proofs.answering.newest.Given as goal

abbrev pub invariant-loop-p : goal.invariant-loop-p
invariant-loop-p l = (l.p ≤ length l.log) × (newest l.log l.key l.p ≡ newest l.log l.key l.s)

abbrev pub decreases-loop-p : goal.decreases-loop-p
decreases-loop-p l = l.p
