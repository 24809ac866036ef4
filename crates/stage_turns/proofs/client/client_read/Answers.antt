use Rattle.stage_turns.proofs.ShelfLemmas.{client_told, serving_is}
use Rattle.stage_turns.proofs.client.client_read.Goals as goal

pub returns-clause-turn : goal.returns-clause-turn
returns-clause-turn c = λ log shows found.
    client_told c.args.dc c.args.s c.args.first_maintainers log c.args.maintainers.now c.args.vectors.now c.args.indexers.now c.args.floor.now c.replace.result _ c.index-as_slice-s.result c.try_next-tried.new.shelf.vector.now c.try_next-tried.new.shelf.maintainers.now c.try_next-tried.new.shelf.indexers.now c.args.session.now _ c.is_pinned-was_pinned.result c.in_ok-turned.turned c.told.result
    c.requires.number (serving_is c.args.vectors.now c.as_slice.result.now (c.args.s) c.args.first_maintainers c.index-as_slice-s.result c.as_slice.ensures c.index-as_slice-s.is c.requires.vector) c.replace.ensures.value c.is_pinned-was_pinned.ensures
    shows found (c.in_ok-turned.ensures.turned log) (c.in_ok-turned.ensures.session log) (c.in_ok-turned.ensures.shelf log) c.told.ensures.outcome c.told.ensures.events c.told.ensures.changed
