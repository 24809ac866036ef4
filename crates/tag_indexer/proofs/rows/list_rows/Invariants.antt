use Rattle.std.proofs.Common.{All, take}
use Rattle.tag_indexer.specs.TagIndexes.{IsRowListed, ListsAll}
use Rattle.tag_indexer.proofs.rows.list_rows.Given as goal

abbrev pub invariant-loop-row : goal.invariant-loop-row
invariant-loop-row l = record {
  listed : All (IsRowListed l.number l.indexers l.updates l.tagged) (take l.row-index l.row-items);
  updates : ListsAll l.initial.updates l.updates;
  tagged : ListsAll l.initial.tagged l.tagged;
}
