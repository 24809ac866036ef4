use Rattle.std.proofs.Common.{◌≡◌, drop}
use Rattle.stage_world.specs.MoreTurns.{record_kept}
use Rattle.stage_turns.proofs.shelving.kept_by.Given as goal

abbrev pub invariant-loop-maintainer : goal.invariant-loop-maintainer
invariant-loop-maintainer l = record_kept (drop l.maintainer-index l.maintainers) l.lid ≡ record_kept l.maintainers l.lid
