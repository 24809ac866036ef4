use Rattle.std.proofs.Common.{◌≡◌, take}
use Rattle.std.specs.List.{fold}
use Rattle.maintainer.specs.Maintainers.{collected}
use Rattle.stage_turns.proofs.collecting.let_go.Given as goal

abbrev pub invariant-loop-lid : goal.invariant-loop-lid
invariant-loop-lid l = l.maintainer ≡ fold collected l.initial.maintainer (take l.lid-index l.lids)
