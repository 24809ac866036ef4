use Rattle.std.proofs.Common.{◌≡◌, ap, sym, ◌∙◌, subst, arith}
use Rattle.tag_indexer.specs.Indexers.{AreInOrder, IndexerState}
use Rattle.tag_indexer.specs.Rows.{home}
use Rattle.tag_indexer.specs.TagIndexes.{AreUpdatesListed}
use Rattle.tag_indexer.proofs.ListedLemmas.{updates_listed}
use Rattle.tag_indexer.proofs.NewestLemmas.{kept_order, told_in_log, told_position}
use Rattle.tag_indexer.proofs.indexer.Indexer.newest.Goals as goal

pub newest_update-requires-clause-listed : goal.newest_update-requires-clause-listed
newest_update-requires-clause-listed c =
    subst (λ rows. AreUpdatesListed c.self.inside.updates rows c.args.key.now) (sym c.deref.ensures.value)
    (updates_listed c.self.inside.number c.self.inside.indexers c.self.inside.updates c.self.inside.tagged c.self.inside.rows.items c.args.key.now (subst (λ (i : IndexerState). home c.args.key.now i.indexers ≡ i.number) (sym c.self.view_is) c.requires.home) c.self.invariant.2)

pub returns-clause-position : goal.returns-clause-position
returns-clause-position c =
    told_position c.args.self.now c.deref.result.now c.args.key.now c.args.s c.newest_update.result (c.deref.ensures.value ∙ ap (λ (i : IndexerState). i.rows) c.self.view_is)
    (subst AreInOrder (sym c.deref.ensures.value) (kept_order c.self.inside.number c.self.inside.indexers _ c.self.inside.rows.items c.self.invariant.1))
    (omega (arith, c.covered-covered.ensures.value, c.if-covered-s.false)) c.newest_update.ensures

pub returns-clause-log : goal.returns-clause-log
returns-clause-log c = λ log indexed within covered.
    told_in_log log c.args.self.now c.deref.result.now c.args.key.now c.args.s c.newest_update.result (c.deref.ensures.value ∙ ap (λ (i : IndexerState). i.rows) c.self.view_is) c.requires.home c.newest_update.ensures indexed within covered
