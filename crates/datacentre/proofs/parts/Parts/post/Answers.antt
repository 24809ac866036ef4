use Rattle.std.proofs.Common.{rules}
use Rattle.datacentre.proofs.WholeTurns.{if_five}
use Rattle.datacentre.proofs.PostTurns.{post_is, post_may}
use Rattle.datacentre.proofs.parts.Parts.post.Goals as goal

pub post-requires : goal.post-requires
post-requires c = record { may = post_may c.args.self.now c.args.m c.args.i _ _ c.requires (search rules) (search rules) c.item_mut.ensures.value c.item_mut-2.ensures.value }

pub returns-clause-turned : goal.returns-clause-turned
returns-clause-turned c =
    if_five c.post.result _ _ _ _ _ _ c.post.ensures.indexer c.post.ensures.indexer c.post.ensures.outcome c.post.ensures.events c.post.ensures.changed
    (λ done indexer same outcome events changed. post_is c.args.self.now c.args.m c.args.i c.item_mut.result.now c.post.new.maintainer c.item_mut-2.result.now c.post.new.indexer done
    c.requires (search rules) (search rules) c.item_mut.ensures.value c.item_mut-2.ensures.value c.post.ensures.maintainer indexer outcome events changed)
