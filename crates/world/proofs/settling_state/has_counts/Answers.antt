use Rattle.std.proofs.Common.{ap, ◌∙◌}
use Rattle.std.proofs.lemmas.Bool.Decides.{same_from_decides}
use Rattle.stage_world.specs.MoreTurns.{same_counts}
use Rattle.stage_turns.proofs.LearningLemmas.{same_decided, same_stored}
use Rattle.world.proofs.settling_state.has_counts.Goals as goal

pub returns : goal.returns
returns c y is =
    same_from_decides c.eq.result (same_counts c.args.counts.now c.log_counts.result) (same_stored c.args.counts.now c.log_counts.result c.eq.result c.eq.ensures) (same_decided c.args.counts.now c.log_counts.result)
    ∙ ap (same_counts c.args.counts.now) (c.log_counts.ensures y is)
