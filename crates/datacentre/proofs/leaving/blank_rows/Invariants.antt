use Rattle.std.proofs.Common.{◌≡◌}
use Rattle.stage_world.specs.Leaving.{blank_rows}
use Rattle.datacentre.proofs.leaving.blank_rows.Given as goal

abbrev pub invariant-loop-done : goal.invariant-loop-done
invariant-loop-done l = l.rows ≡ blank_rows l._done
