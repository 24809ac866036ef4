use Rattle.std.proofs.Common.{leb, leb-true, leb-false, sym, rules, arith}
use Rattle.std.proofs.lemmas.List.Sorted.{IsPartitionPoint-from_clause, IsPartitionedBy-leb}
use Rattle.maintainer.proofs.SlotLemmas.{rising_non_decreasing}
use Rattle.maintainer.proofs.AfterLemmas.{after_front, after_none}
use Rattle.maintainer.proofs.slot.slot_after.Goals as goal

pub returns-then-at-slots : goal.returns-then-at-slots
returns-then-at-slots g c =
    let parted = IsPartitionedBy-leb (λ e. e.lid) _ c.args.lid (rising_non_decreasing _ c.requires) in
    let point = IsPartitionPoint-from_clause (λ e. leb e.lid c.args.lid) _ _ c.partition_point-at.ensures.partitioned parted (λ a r q k. search rules) in
    sym (after_front _ _ _ _ (omega (arith, c.if-at-slots.true)) (λ k d from lt. leb-true _ _ (point.0 k d from lt)) (λ k d from lt. leb-false _ _ (point.1 k d from lt)) c.index-slots-at.is)

pub returns-else-at-slots : goal.returns-else-at-slots
returns-else-at-slots g c =
    let parted = IsPartitionedBy-leb (λ e. e.lid) _ c.args.lid (rising_non_decreasing _ c.requires) in
    let point = IsPartitionPoint-from_clause (λ e. leb e.lid c.args.lid) _ _ c.partition_point-at.ensures.partitioned parted (λ a r q k. search rules) in
    sym (after_none _ _ _ (omega (arith, c.if-at-slots.false)) (λ k d from lt. leb-true _ _ (point.0 k d from lt)))
