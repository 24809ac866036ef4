use Rattle.std.proofs.Common.{map, ap, ◌∙◌}
use Rattle.stage_world.specs.MoreTurns.{row_made}
use Rattle.stage_turns.proofs.PostingLemmas.{read_own, read_posted}
use Rattle.stage_turns.proofs.posting.post.Goals as goal

pub post-requires-clause-rows : goal.post-requires-clause-rows
post-requires-clause-rows c =
    read_own c.args.maintainer.now c.args.m c.args.indexer.now c.requires.may c.mark-low.result c.posted_below-top.result c.entries.result.now c.in_ok-rows.rows c.epochs.result.now
    c.mark-low.ensures.value c.mark-low.ensures.some c.posted_below-top.ensures c.entries.ensures.value c.entries.ensures.rising (c.in_ok-rows.ensures ∙ ap (map row_made) c.between.ensures) c.epochs.ensures.value

pub returns-clause-indexer : goal.returns-clause-indexer
returns-clause-indexer c =
    c.in_ok-post.ensures.ok
    ∙ read_posted c.args.maintainer.now c.args.m c.args.indexer.now c.requires.may c.mark-low.result c.posted_below-top.result c.entries.result.now c.in_ok-rows.rows c.epochs.result.now
    c.mark-low.ensures.value c.posted_below-top.ensures c.entries.ensures.value (c.in_ok-rows.ensures ∙ ap (map row_made) c.between.ensures) c.epochs.ensures.value
