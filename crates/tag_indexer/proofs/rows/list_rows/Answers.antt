use Rattle.std.proofs.lemmas.List.Elements.{All-weaker}
use Rattle.tag_indexer.specs.TagIndexes.{IsRowListed}
use Rattle.tag_indexer.proofs.ListedLemmas.{All-take_more, All-whole, listed_more}
use Rattle.tag_indexer.proofs.rows.list_rows.Goals as goal

pub loop-row-preserved : goal.loop-row-preserved
loop-row-preserved c = record {
  listed = All-take_more (IsRowListed c.args.number c.args.indexers c.list_row.new.updates c.list_row.new.tagged) _ c.loop-row.row-index c.row-item.result c.loop-row-test.true c.row-item.is
      (All-weaker (IsRowListed c.args.number c.args.indexers c.loop-row.updates c.loop-row.tagged) (IsRowListed c.args.number c.args.indexers c.list_row.new.updates c.list_row.new.tagged)
      (listed_more c.args.number c.args.indexers _ _ _ _ c.in_ok-list_row.ensures.updates c.in_ok-list_row.ensures.tagged) _ c.loop-row.invariant.listed)
      c.in_ok-list_row.ensures.listed;
  updates = λ tag p has. c.in_ok-list_row.ensures.updates tag p (c.loop-row.invariant.updates tag p has);
  tagged = λ tag p has. c.in_ok-list_row.ensures.tagged tag p (c.loop-row.invariant.tagged tag p has);
}

pub returns-clause-listed : goal.returns-clause-listed
returns-clause-listed c = All-whole (IsRowListed c.args.number c.args.indexers c.loop-row.updates c.loop-row.tagged) c.as_slice-row-items.result.now _ c.loop-row.row-index c.as_slice-row-items.ensures c.loop-row-test.false c.loop-row.invariant.listed
