use Rattle.std.proofs.Common.{leb, leb-true, leb-false, ap, sym, ◌∙◌, subst, rules}
use Rattle.std.specs.List.{Contains}
use Rattle.std.proofs.lemmas.List.Sorted.{IsPartitionPoint-from_clause, IsPartitionedBy-leb}
use Rattle.tag_indexer.specs.TagIndexes.{AreLidsRising}
use Rattle.tag_indexer.proofs.TagLemmas.{listed_as, lids_sorted, front_rises, front_below, front_whole}
use Rattle.tag_indexer.proofs.tag_index.TagIndex.up_to.Goals as goal

pub returns-clause-rising : goal.returns-clause-rising
returns-clause-rising c =
    let rise = subst AreLidsRising (listed_as c.self.inside.lists.entries c.args.tag.now c.in-Some.lids.now c.in-Some.ensures.value ∙ sym c.as_slice-lids.ensures) (c.self.invariant c.args.tag.now) in
    front_rises c.as_slice-lids.result.now c.partition_point-end.result c.partition_point-end.ensures.bound rise

pub returns-clause-below : goal.returns-clause-below
returns-clause-below c =
    let rise = subst AreLidsRising (listed_as c.self.inside.lists.entries c.args.tag.now c.in-Some.lids.now c.in-Some.ensures.value ∙ sym c.as_slice-lids.ensures) (c.self.invariant c.args.tag.now) in
    let parted = IsPartitionedBy-leb (λ p. p) _ c.args.s (lids_sorted _ rise) in
    let point = IsPartitionPoint-from_clause (λ p. leb p c.args.s) _ _ c.partition_point-end.ensures.partitioned parted (λ a r q k. search rules) in
    front_below _ _ c.args.s c.partition_point-end.ensures.bound (λ k d from lt. leb-true _ _ (point.0 k d from lt))

pub returns-clause-whole : goal.returns-clause-whole
returns-clause-whole c =
    let is = listed_as c.self.inside.lists.entries c.args.tag.now c.in-Some.lids.now c.in-Some.ensures.value ∙ sym c.as_slice-lids.ensures in
    let rise = subst AreLidsRising is (c.self.invariant c.args.tag.now) in
    let parted = IsPartitionedBy-leb (λ p. p) _ c.args.s (lids_sorted _ rise) in
    let point = IsPartitionPoint-from_clause (λ p. leb p c.args.s) _ _ c.partition_point-end.ensures.partitioned parted (λ a r q k. search rules) in
    λ p low has. front_whole _ _ c.args.s p c.partition_point-end.ensures.bound (λ k d from lt. leb-false _ _ (point.1 k d from lt)) low
    (subst (λ lids. Contains lids p) (ap (λ index. index) is) (rw (sym c.self.view_is) at has))
