use Rattle.std.proofs.Common.{◌≡◌, ◌≤◌, ◌++◌, length, take, reverse, vec_len}
use Rattle.std.specs.List.{filter_map}
use Rattle.tag_indexer.specs.TagIndexes.{place_tagged_at}
use Rattle.tag_indexer.proofs.rows.last_places.Given as goal

abbrev pub invariant-loop-at : goal.invariant-loop-at
invariant-loop-at l = record {
  within : l.at ≤ length l.lids;
  few : vec_len l.places ≤ l.count;
  split : filter_map (place_tagged_at l.rows l.tag) l.lids ≡ filter_map (place_tagged_at l.rows l.tag) (take l.at l.lids) ++ reverse l.places.items;
}

abbrev pub decreases-loop-at : goal.decreases-loop-at
decreases-loop-at l = l.at
