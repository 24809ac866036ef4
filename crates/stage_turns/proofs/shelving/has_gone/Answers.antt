use Rattle.stage_turns.proofs.ShelfLemmas.{gone_decides}
use Rattle.stage_turns.proofs.shelving.has_gone.Goals as goal

pub returns : goal.returns
returns c = gone_decides c.args.lid c.saturating_add.result c.args.maintainers.now c.has_gone_within.result c.has_gone_within.ensures c.saturating_add.ensures c.requires
