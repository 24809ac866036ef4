use Rattle.std.proofs.Common.{◌∙◌, ap}
use Rattle.stage_world.specs.Settling.{marks}
use Rattle.world.proofs.RoundLemmas.{flat_next}
use Rattle.world.proofs.rounds.marks.Goals as goal

pub loop-number-preserved : goal.loop-number-preserved
loop-number-preserved c = flat_next marks _ _ _ _ c.in_ok-add_marks.ensures (ap marks c.in-Some.ensures.value) c.loop-number.invariant
