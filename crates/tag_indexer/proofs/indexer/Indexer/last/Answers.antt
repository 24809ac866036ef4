use Rattle.std.proofs.Common.{◌≡◌, List, ap, sym, ◌∙◌, subst, arith}
use Rattle.causal_deps.specs.declared.record.Place.{Place}
use Rattle.abstract_log.specs.Answers.{last_of}
use Rattle.tag_indexer.specs.Indexers.{IndexerState}
use Rattle.tag_indexer.specs.Rows.{home, tagged_places}
use Rattle.tag_indexer.specs.declared.post.Post.{Post}
use Rattle.tag_indexer.specs.TagIndexes.{AreTagsListed}
use Rattle.tag_indexer.proofs.ListedLemmas.{tags_listed}
use Rattle.tag_indexer.proofs.TaggedLemmas.{tagged_is}
use Rattle.tag_indexer.proofs.indexer.Indexer.last.Goals as goal

pub last_tagged-requires-clause-listed : goal.last_tagged-requires-clause-listed
last_tagged-requires-clause-listed c =
    subst (λ rows. AreTagsListed c.self.inside.tagged rows c.args.tag.now) (sym c.deref.ensures.value)
    (tags_listed c.self.inside.number c.self.inside.indexers c.self.inside.updates c.self.inside.tagged c.self.inside.rows.items c.args.tag.now (subst (λ (i : IndexerState). home c.args.tag.now i.indexers ≡ i.number) (sym c.self.view_is) c.requires.home) c.self.invariant.2)

pub returns-in-Ok-clause-log : goal.returns-in-Ok-clause-log
returns-in-Ok-clause-log c = λ log indexed within.
    c.in-Ok.ensures
    ∙ ap (λ (rows : List Post). last_of c.args.count (tagged_places rows c.args.tag.now c.args.s)) (c.deref.ensures.value ∙ ap (λ (i : IndexerState). i.rows) c.self.view_is)
    ∙ ap (λ (places : List Place). last_of c.args.count places) (tagged_is log c.args.self.now c.args.tag.now c.args.s indexed c.requires.home within (omega (arith, c.covered-covered.ensures.value, c.if-covered-s.false)))
