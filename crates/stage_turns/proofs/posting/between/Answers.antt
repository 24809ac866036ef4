use Rattle.std.proofs.Common.{◌-◌, ltb, ltb-true, ltb-false, take, drop, ap, ◌∙◌, rules}
use Rattle.std.proofs.lemmas.List.Sorted.{IsPartitionPoint-from_clause, IsPartitionedBy-ltb}
use Rattle.maintainer.proofs.SlotLemmas.{rising_non_decreasing}
use Rattle.stage_turns.proofs.PostingLemmas.{between_is}
use Rattle.stage_turns.proofs.posting.between.Goals as goal

pub returns : goal.returns
returns c =
    let sorted = rising_non_decreasing c.args.entries.now c.requires in
    let first = IsPartitionPoint-from_clause (λ e. ltb e.lid c.args.low) _ _ c.partition_point-start.ensures.partitioned (IsPartitionedBy-ltb (λ e. e.lid) _ c.args.low sorted) (λ a r q k. search rules) in
    let last = IsPartitionPoint-from_clause (λ e. ltb e.lid c.args.top) _ _ c.partition_point-end.ensures.partitioned (IsPartitionedBy-ltb (λ e. e.lid) _ c.args.top sorted) (λ a r q k. search rules) in
    ap (λ n. take (n - c.partition_point-start.result) (drop c.partition_point-start.result c.args.entries.now)) c.max.ensures
    ∙ between_is c.args.entries.now c.args.low c.args.top c.partition_point-start.result c.partition_point-end.result
    (record { few = c.partition_point-start.ensures.bound; below = λ k d lt. ltb-true _ _ (first.0 k d (search rules) lt); above = λ k d from lt. ltb-false _ _ (first.1 k d from lt) })
    (record { few = c.partition_point-end.ensures.bound; below = λ k d lt. ltb-true _ _ (last.0 k d (search rules) lt); above = λ k d from lt. ltb-false _ _ (last.1 k d from lt) })
