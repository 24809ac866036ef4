use Rattle.std.proofs.Common.{subst, sym, Err}
use Rattle.std.specs.List.{Contains}
use Rattle.std.proofs.lemmas.List.Sorted.{searched}
use Rattle.tag_indexer.specs.TagIndexes.{AreLidsRising}
use Rattle.tag_indexer.proofs.LidLemmas.{insert_rises, insert_keeps}
use Rattle.tag_indexer.proofs.TagLemmas.{lids_sorted}
use Rattle.tag_indexer.proofs.tag_index.add_lid.Goals as goal

pub returns-in_ok-insert-in-Err-clause-rising : goal.returns-in_ok-insert-in-Err-clause-rising
returns-in_ok-insert-in-Err-clause-rising c =
    let sorted = lids_sorted c.args.lids.now c.requires in
    let spot = searched c.args.lids.now c.args.lid (Err c.in-Err.at) (rw c.as_slice.ensures at c.in-Err.ensures.position) (λ i j le within. sorted i j 0 le within) in
    subst AreLidsRising (sym c.in_ok-insert-in-Err.ensures.ok) (insert_rises c.args.lids.now c.in-Err.at c.args.lid c.requires spot.0 spot.1 spot.2)

pub returns-in_ok-insert-in-Err-clause-kept : goal.returns-in_ok-insert-in-Err-clause-kept
returns-in_ok-insert-in-Err-clause-kept c = λ p has. subst (λ lids. Contains lids p) (sym c.in_ok-insert-in-Err.ensures.ok) (insert_keeps c.args.lids.now c.in-Err.at c.args.lid p has)
