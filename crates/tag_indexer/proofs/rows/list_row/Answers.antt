use Rattle.std.proofs.lemmas.List.Elements.{All-weaker}
use Rattle.tag_indexer.specs.TagIndexes.{IsListedUnder}
use Rattle.tag_indexer.proofs.ListedLemmas.{All-take_more, All-whole, under_more}
use Rattle.tag_indexer.proofs.rows.list_row.Goals as goal

pub loop-tag-preserved : goal.loop-tag-preserved
loop-tag-preserved c = record {
  listed = All-take_more (IsListedUnder c.args.number c.args.indexers c.list_under.new.updates c.list_under.new.tagged c.args.row.now) _ c.loop-tag.tag-index c.tag-item.result c.loop-tag-test.true c.tag-item.is
      (All-weaker (IsListedUnder c.args.number c.args.indexers c.loop-tag.updates c.loop-tag.tagged c.args.row.now) (IsListedUnder c.args.number c.args.indexers c.list_under.new.updates c.list_under.new.tagged c.args.row.now)
      (under_more c.args.number c.args.indexers _ _ _ _ c.args.row.now c.in_ok-list_under.ensures.updates c.in_ok-list_under.ensures.tagged) _ c.loop-tag.invariant.listed)
      c.in_ok-list_under.ensures.listed;
  updates = λ tag p has. c.in_ok-list_under.ensures.updates tag p (c.loop-tag.invariant.updates tag p has);
  tagged = λ tag p has. c.in_ok-list_under.ensures.tagged tag p (c.loop-tag.invariant.tagged tag p has);
}

pub returns-clause-listed : goal.returns-clause-listed
returns-clause-listed c = record { under = All-whole (IsListedUnder c.args.number c.args.indexers c.loop-tag.updates c.loop-tag.tagged c.args.row.now) c.as_slice-tag-items.result.now _ c.loop-tag.tag-index c.as_slice-tag-items.ensures c.loop-tag-test.false c.loop-tag.invariant.listed }
