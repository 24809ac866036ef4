use Rattle.std.proofs.Common.{leb, rules, sym}
use Rattle.std.proofs.lemmas.List.Sorted.{IsPartitionPoint-from_clause, IsPartitionedBy-leb}
use Rattle.tag_indexer.proofs.FindLemmas.{put_in_order}
use Rattle.tag_indexer.proofs.rows.put_row.Goals as goal

pub returns-clause-items : goal.returns-clause-items
returns-clause-items c =
    let items = rw c.unwrap.ensures at c.insert.ensures.items in
    let parted = IsPartitionedBy-leb (λ row. row.place.lid) _ c.args.row.place.lid (rw (sym c.as_slice.ensures.value) at c.requires.sorted) in
    let point = IsPartitionPoint-from_clause (λ row. leb row.place.lid c.args.row.place.lid) _ _ c.partition_point-at.ensures.partitioned parted (λ a r q k. search rules) in
    (put_in_order c.args.rows.now.items c.as_slice.result.now c.insert.new.self.items c.partition_point-at.result c.args.row c.as_slice.ensures.value items c.requires.sorted c.partition_point-at.ensures.bound point.0 point.1).0

pub returns-clause-sorted : goal.returns-clause-sorted
returns-clause-sorted c =
    let items = rw c.unwrap.ensures at c.insert.ensures.items in
    let parted = IsPartitionedBy-leb (λ row. row.place.lid) _ c.args.row.place.lid (rw (sym c.as_slice.ensures.value) at c.requires.sorted) in
    let point = IsPartitionPoint-from_clause (λ row. leb row.place.lid c.args.row.place.lid) _ _ c.partition_point-at.ensures.partitioned parted (λ a r q k. search rules) in
    (put_in_order c.args.rows.now.items c.as_slice.result.now c.insert.new.self.items c.partition_point-at.result c.args.row c.as_slice.ensures.value items c.requires.sorted c.partition_point-at.ensures.bound point.0 point.1).1
