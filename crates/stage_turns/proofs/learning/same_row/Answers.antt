use Rattle.stage_turns.proofs.LearningLemmas.{same_stored}
use Rattle.stage_turns.proofs.learning.same_row.Goals as goal

pub returns : goal.returns
returns c = same_stored c.args.row.now c.args.other.now c.eq.result c.eq.ensures
