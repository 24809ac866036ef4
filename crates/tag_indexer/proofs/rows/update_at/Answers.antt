use Rattle.std.proofs.Common.{eqb, eqb-true, sym, ◌∙◌}
use Rattle.tag_indexer.specs.declared.post.Post.{Post}
use Rattle.tag_indexer.proofs.TaggedLemmas.{find_tells}
use Rattle.tag_indexer.proofs.rows.update_at.Goals as goal

pub returns-in-Some : goal.returns-in-Some
returns-in-Some c =
    let found = find_tells (λ (post : Post). eqb post.place.lid c.args.lid) c.args.rows.now c.in-Some.row.now (sym c.in-Some.ensures) in (
      record { row = found.0; update = sym c.is_update.ensures ∙ c.if-is_update.true; tagged = sym c.has_tag.ensures ∙ c.if-has_tag.true },
      eqb-true c.in-Some.row.now.place.lid c.args.lid found.1,
    )
