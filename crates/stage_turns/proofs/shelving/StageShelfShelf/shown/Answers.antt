use Rattle.std.proofs.Common.{List, ap, subst, ◌∙◌}
use Rattle.std.specs.List.{Contains}
use Rattle.causal_deps.specs.declared.record.Record.{Record}
use Rattle.maintainer.specs.Maintainers.{MaintainerState}
use Rattle.stage_world.specs.MoreTurns.{record_kept}
use Rattle.stage_turns.specs.Shelves.{gone_in}
use Rattle.stage_turns.proofs.ShelfLemmas.{not_missing}
use Rattle.stage_turns.proofs.shelving.StageShelfShelf.shown.Goals as goal

pub has_gone-requires : goal.has_gone-requires
has_gone-requires c = λ p has. c.requires.log.1.small p (subst (λ ms. Contains (gone_in ms) p) c.as_slice-in-None.ensures has)

pub returns-then-has_gone-clause-kept : goal.returns-then-has_gone-clause-kept
returns-then-has_gone-clause-kept c = λ log key n s shows pin told.
    let shelf = c.args.self.now in
    not_missing shelf.vector.now shelf.maintainers.now shelf.indexers.now shelf.floor log key n s c.args.lid shows pin told (c.in-None.ensures ∙ ap (λ (ms : List (MaintainerState Record)). record_kept ms c.args.lid) c.as_slice.ensures)

pub returns-else-has_gone-clause-kept : goal.returns-else-has_gone-clause-kept
returns-else-has_gone-clause-kept c = λ log key n s shows pin told.
    let shelf = c.args.self.now in
    not_missing shelf.vector.now shelf.maintainers.now shelf.indexers.now shelf.floor log key n s c.args.lid shows pin told (c.in-None.ensures ∙ ap (λ (ms : List (MaintainerState Record)). record_kept ms c.args.lid) c.as_slice.ensures)
