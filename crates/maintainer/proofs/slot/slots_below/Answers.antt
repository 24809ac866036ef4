use Rattle.std.proofs.Common.{ltb, ltb-true, ltb-false, rules}
use Rattle.std.proofs.lemmas.List.Sorted.{IsPartitionPoint-from_clause, IsPartitionedBy-ltb}
use Rattle.maintainer.proofs.SlotLemmas.{rising_non_decreasing, below_last}
use Rattle.maintainer.proofs.slot.slots_below.Goals as goal

pub returns-in-Some-clause-below : goal.returns-in-Some-clause-below
returns-in-Some-clause-below g c = below_last _ _ _ c.requires c.in-Some.ensures.value c.if-last-lid.true

pub returns-in_default-clause-below : goal.returns-in_default-clause-below
returns-in_default-clause-below g c =
    let parted = IsPartitionedBy-ltb (λ e. e.lid) _ c.args.lid (rising_non_decreasing _ c.requires) in
    let point = IsPartitionPoint-from_clause (λ e. ltb e.lid c.args.lid) _ _ c.partition_point.ensures.partitioned parted (λ a r q k. search rules) in
    λ k d from lt. ltb-true _ _ (point.0 k d from lt)

pub returns-in_default-clause-above : goal.returns-in_default-clause-above
returns-in_default-clause-above g c =
    let parted = IsPartitionedBy-ltb (λ e. e.lid) _ c.args.lid (rising_non_decreasing _ c.requires) in
    let point = IsPartitionPoint-from_clause (λ e. ltb e.lid c.args.lid) _ _ c.partition_point.ensures.partitioned parted (λ a r q k. search rules) in
    λ k d from lt. ltb-false _ _ (point.1 k d from lt)
