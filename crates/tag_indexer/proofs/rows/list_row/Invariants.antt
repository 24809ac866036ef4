use Rattle.std.proofs.Common.{All, take}
use Rattle.tag_indexer.specs.TagIndexes.{IsListedUnder, ListsAll}
use Rattle.tag_indexer.proofs.rows.list_row.Given as goal

abbrev pub invariant-loop-tag : goal.invariant-loop-tag
invariant-loop-tag l = record {
  listed : All (IsListedUnder l.number l.indexers l.updates l.tagged l.row) (take l.tag-index l.tag-items);
  updates : ListsAll l.initial.updates l.updates;
  tagged : ListsAll l.initial.tagged l.tagged;
}
