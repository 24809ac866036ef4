use Rattle.std.proofs.Common.{◌≤◌, ◌∙◌, arith, length}
use Rattle.std.proofs.lemmas.List.{length-map}
use Rattle.flstore_rounds.specs.Heads.{head}
use Rattle.tag_indexer.specs.Indexers.{IndexerState}
use Rattle.stage_turns.proofs.ShelfLemmas.{covered_at}
use Rattle.stage_turns.proofs.shelving.StageShelfShelf.last.Goals as goal

pub returns-clause-behind : goal.returns-clause-behind
returns-clause-behind c = λ covered is.
    let told = (c.last.ensures.behind covered).0 is in
    let shelf = c.args.self.now in
    let some : 1 ≤ length shelf.indexers.now = omega (arith, shelf.sized.some, length-map shelf.indexers.now (λ (i : IndexerState). head i.pair)) in
    (told.1, told.0 ∙ covered_at shelf.vector.now shelf.maintainers.now shelf.indexers.now shelf.floor some c.args.tag.now c.len.result c.home-at.result c.index-as_slice-at.result c.as_slice.result.now c.len.ensures c.home-at.ensures.value c.as_slice.ensures c.index-as_slice-at.is)
