use Rattle.std.proofs.Common.{◌≡◌, ◌-◌, ◌≤◌, length}
use Rattle.stage_world.specs.MoreTurns.{counts_after}
use Rattle.stage_turns.proofs.learning.counted.Given as goal

abbrev pub invariant-loop-before : goal.invariant-loop-before
invariant-loop-before l = record {
  from : l.from ≤ l.before;
  leads : counts_after l.maintainers l.row l.before (l.upto - l.before) ≡ counts_after l.maintainers l.initial.row l.from (l.upto - l.from);
  len : length l.row ≡ length l.initial.row;
}
