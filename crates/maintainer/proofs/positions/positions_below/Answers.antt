use Rattle.std.proofs.Common.{ltb, ltb-true, ltb-false, rules}
use Rattle.std.proofs.lemmas.List.Sorted.{IsPartitionPoint-from_clause, IsPartitionedBy-ltb}
use Rattle.maintainer.proofs.PositionLemmas.{positions_non_decreasing}
use Rattle.maintainer.proofs.positions.positions_below.Goals as goal

pub returns-clause-below : goal.returns-clause-below
returns-clause-below c =
    let parted = IsPartitionedBy-ltb (λ p. p) _ c.args.lid (positions_non_decreasing _ c.requires) in
    let point = IsPartitionPoint-from_clause (λ p. ltb p c.args.lid) _ _ c.partition_point.ensures.partitioned parted (λ a r q k. search rules) in
    λ k d from lt. ltb-true _ _ (point.0 k d from lt)

pub returns-clause-above : goal.returns-clause-above
returns-clause-above c =
    let parted = IsPartitionedBy-ltb (λ p. p) _ c.args.lid (positions_non_decreasing _ c.requires) in
    let point = IsPartitionPoint-from_clause (λ p. ltb p c.args.lid) _ _ c.partition_point.ensures.partitioned parted (λ a r q k. search rules) in
    λ k d from lt. ltb-false _ _ (point.1 k d from lt)
