use Rattle.stage_turns.proofs.CollectingLemmas.{home_is}
use Rattle.stage_turns.proofs.collecting.home_indexer.Goals as goal

pub returns-clause-value : goal.returns-clause-value
returns-clause-value c = (home_is c.args.indexers.now c.args.tag.now _ _ c.requires c.home.ensures.value c.home.ensures.member c.index-indexers-home.is).0

pub returns-clause-home : goal.returns-clause-home
returns-clause-home c = (home_is c.args.indexers.now c.args.tag.now _ _ c.requires c.home.ensures.value c.home.ensures.member c.index-indexers-home.is).1
