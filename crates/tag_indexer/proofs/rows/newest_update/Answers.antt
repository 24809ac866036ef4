use Rattle.std.proofs.Common.{◌∙◌}
use Rattle.tag_indexer.proofs.AnswerLemmas.{told_some, told_none}
use Rattle.tag_indexer.proofs.rows.newest_update.Goals as goal

pub returns-in-Some : goal.returns-in-Some
returns-in-Some c = c.told.ensures ∙ told_some c.args.rows.now c.args.key.now c.args.s c.requires.order c.args.updates.now c.up_to.result.now c.in-Some.row.now c.requires.listed c.up_to.ensures.below c.up_to.ensures.whole c.in-Some.ensures

pub returns-in-None : goal.returns-in-None
returns-in-None c = told_none c.args.rows.now c.args.key.now c.args.s c.requires.order c.args.updates.now c.up_to.result.now c.requires.listed c.up_to.ensures.whole c.in-None.ensures
