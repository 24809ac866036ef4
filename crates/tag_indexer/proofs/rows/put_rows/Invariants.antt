use Rattle.std.proofs.Common.{◌≡◌, ◌≤◌, ◌+◌, length, filter, vec_len, vec_capacity}
use Rattle.std.specs.Vec.Iter.{into_iter_items, into_iter_len}
use Rattle.tag_indexer.specs.declared.post.Post.{Post}
use Rattle.tag_indexer.specs.Rows.{has_home, rows_in}
use Rattle.tag_indexer.specs.Indexers.{AreSorted}
use Rattle.tag_indexer.proofs.rows.put_rows.Given as goal

abbrev pub invariant-loop-row : goal.invariant-loop-row
invariant-loop-row l = record {
  next : (goal.iterator-loop-row).can_next l.row-iterator;
  finite : (goal.iterator-loop-row).is_finite l.row-iterator;
  sorted : AreSorted l.rows.items;
  leads : rows_in l.rows.items (filter (λ (post : Post). has_home l.indexers l.number post.tags) (into_iter_items l.row-iterator)) ≡ rows_in l.initial.rows.items (filter (λ (post : Post). has_home l.indexers l.number post.tags) (into_iter_items l.initial.row-iterator));
  room : vec_len l.rows + length (into_iter_items l.row-iterator) ≤ vec_capacity l.rows;
  len : into_iter_len l.row-iterator ≡ length (into_iter_items l.row-iterator);
}
