use Rattle.std.proofs.Common.{ltb, ltb-true, ltb-false, ap, sym, ◌∙◌, rules, arith}
use Rattle.std.proofs.lemmas.List.Sorted.{IsPartitionPoint-from_clause, IsPartitionedBy-ltb}
use Rattle.tag_indexer.specs.declared.post.Post.{Post}
use Rattle.tag_indexer.proofs.FindLemmas.{find_here, find_nowhere, all_above}
use Rattle.tag_indexer.proofs.rows.row_at.Goals as goal

pub returns-in_default : goal.returns-in_default
returns-in_default c =
    let parted = IsPartitionedBy-ltb (λ row. row.place.lid) _ c.args.lid c.requires in
    let point = IsPartitionPoint-from_clause (λ row. ltb row.place.lid c.args.lid) _ _ c.partition_point.ensures.partitioned parted (λ a r q k. search rules) in
    let past = c.in_default.ensures.lookup.3 in
    sym (find_nowhere c.args.rows.now c.partition_point.result c.args.lid c.partition_point.ensures.bound (λ k d from lt. ltb-true _ _ (point.0 k d from lt)) (λ k d from lt. absurd (omega (arith, past))))

pub returns-then-row-lid : goal.returns-then-row-lid
returns-then-row-lid c =
    let parted = IsPartitionedBy-ltb (λ row. row.place.lid) _ c.args.lid c.requires in
    let point = IsPartitionPoint-from_clause (λ row. ltb row.place.lid c.args.lid) _ _ c.partition_point.ensures.partitioned parted (λ a r q k. search rules) in
    let found = c.in-Some.ensures.lookup in
    sym (find_here c.args.rows.now c.partition_point.result c.args.lid c.in-Some.row.now found.3.0 (λ k d from lt. ltb-true _ _ (point.0 k d from lt)) found.1 c.if-row-lid.true)

pub returns-else-row-lid : goal.returns-else-row-lid
returns-else-row-lid c =
    let parted = IsPartitionedBy-ltb (λ row. row.place.lid) _ c.args.lid c.requires in
    let point = IsPartitionPoint-from_clause (λ row. ltb row.place.lid c.args.lid) _ _ c.partition_point.ensures.partitioned parted (λ a r q k. search rules) in
    let found = c.in-Some.ensures.lookup in
    sym (find_nowhere c.args.rows.now c.partition_point.result c.args.lid c.partition_point.ensures.bound (λ k d from lt. ltb-true _ _ (point.0 k d from lt))
    (all_above c.args.rows.now c.partition_point.result c.args.lid c.requires (λ k d from lt. ltb-false _ _ (point.1 k d from lt)) (λ _ d same. c.if-row-lid.false (ap (λ (post : Post). post.place.lid) (found.3.1 d) ∙ same))))
