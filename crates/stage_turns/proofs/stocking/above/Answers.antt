use Rattle.std.proofs.Common.{leb, leb-true, leb-false, rules}
use Rattle.std.proofs.lemmas.List.Sorted.{IsPartitionPoint-from_clause, IsPartitionedBy-leb}
use Rattle.maintainer.proofs.SlotLemmas.{rising_non_decreasing}
use Rattle.stage_turns.proofs.NewsLemmas.{above_are}
use Rattle.stage_turns.proofs.stocking.above.Goals as goal

pub returns : goal.returns
returns c =
    let parted = IsPartitionedBy-leb (λ e. e.lid) _ c.args.lid (rising_non_decreasing _ c.requires) in
    let point = IsPartitionPoint-from_clause (λ e. leb e.lid c.args.lid) _ _ c.partition_point-start.ensures.partitioned parted (λ a r q k. search rules) in
    above_are c.args.lid c.partition_point-start.result c.args.entries.now (λ k d from lt. leb-true _ _ (point.0 k d from lt)) (λ k d from lt. leb-false _ _ (point.1 k d from lt)) c.partition_point-start.ensures.bound
