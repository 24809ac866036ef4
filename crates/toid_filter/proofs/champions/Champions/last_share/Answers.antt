use Rattle.std.proofs.Common.{◌∙◌, ap}
use Rattle.toid_filter.specs.Champions.{last_of_shares, sole_share}
use Rattle.toid_filter.proofs.ShareLemmas.{last_next, last_all}
use Rattle.toid_filter.proofs.champions.Champions.last_share.Goals as goal

pub loop-share-preserved : goal.loop-share-preserved
loop-share-preserved c = last_next c.shares-share-items.result.now c.loop-share.share-index _ c.loop-share-test.true

pub returns : goal.returns
returns c =
    last_all c.loop-share.found c.shares-share-items.result.now c.loop-share.share-index c.loop-share-test.false c.loop-share.invariant
    ∙ ap (last_of_shares sole_share) c.shares-share-items.ensures.value
