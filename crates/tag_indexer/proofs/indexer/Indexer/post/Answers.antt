use Rattle.std.proofs.Common.{ℕ, set, List, All, refl, ap, sym, ◌∙◌, subst, IsTrue}
use Rattle.flstore_rounds.specs.Heads.{IsTruePair}
use Rattle.tag_indexer.specs.declared.post.Post.{Post}
use Rattle.tag_indexer.specs.Rows.{has_home, rows_in}
use Rattle.tag_indexer.specs.Indexers.{IndexerState, AreKept}
use Rattle.tag_indexer.specs.Indexed.{IsIndexed}
use Rattle.tag_indexer.specs.TagIndexes.{IsRowListed}
use Rattle.std.specs.List.{filter}
use Rattle.tag_indexer.proofs.PostedLemmas.{MayPost, may_alike, posted_by, posted_kept, posted_log, posted_listed, posted_true, kept_same, listed_same}
use Rattle.tag_indexer.proofs.indexer.Indexer.post.Goals as goal

pub invariant_of-self : goal.invariant_of-self
invariant_of-self c =
    let i = c.self.inside in
    (c.self.invariant.0, c.self.invariant.1, listed_same i.number i.indexers i.updates i.tagged c.list_rows.new.updates c.list_rows.new.tagged i.rows.items i.rows.items refl c.list_rows.ensures.updates c.list_rows.ensures.tagged c.self.invariant.2)

pub invariant_of-self-in_err-reserve : goal.invariant_of-self-in_err-reserve
invariant_of-self-in_err-reserve c =
    let i = c.self.inside in (
      c.self.invariant.0,
      kept_same i.number i.indexers i.epochs i.epochs i.marks i.rows.items c.reserve.new.self.items refl c.reserve.ensures.items c.self.invariant.1,
      listed_same i.number i.indexers i.updates i.tagged c.list_rows.new.updates c.list_rows.new.tagged i.rows.items c.reserve.new.self.items c.reserve.ensures.items c.list_rows.ensures.updates c.list_rows.ensures.tagged c.self.invariant.2,
    )

pub invariant_of-self-in_err-take_longer : goal.invariant_of-self-in_err-take_longer
invariant_of-self-in_err-take_longer c =
    let i = c.self.inside in (
      c.self.invariant.0,
      kept_same i.number i.indexers i.epochs c.take_longer.new.self i.marks i.rows.items c.reserve.new.self.items c.in_err-take_longer.ensures.err c.reserve.ensures.items c.self.invariant.1,
      listed_same i.number i.indexers i.updates i.tagged c.list_rows.new.updates c.list_rows.new.tagged i.rows.items c.reserve.new.self.items c.reserve.ensures.items c.list_rows.ensures.updates c.list_rows.ensures.tagged c.self.invariant.2,
    )

pub invariant_of-self-2 : goal.invariant_of-self-2
invariant_of-self-2 c =
    let f = c.self.inside in
    let i : IndexerState = record { number = f.number; indexers = f.indexers; pair = record { epochs = f.epochs; marks = f.marks }; rows = f.rows.items } in
    let may : MayPost i c.args.epochs.now c.args.m c.args.upto c.args.rows =
    may_alike i c.args.self.now c.args.epochs.now c.args.m c.args.upto c.args.rows c.self.view_is (record { member = c.requires.member; prefix = c.requires.prefix; begun = c.requires.begun; own = c.requires.rows }) in
    let is = posted_by i c.args.epochs.now c.take_longer.new.self c.args.m c.args.upto c.args.rows c.put_rows.new.rows.items (set f.marks c.args.m c.max.result) c.in_ok-take_longer.ensures.ok (ap (λ (k : ℕ). set f.marks c.args.m k) c.max.ensures)
    (c.put_rows.ensures ∙ ap (λ (rows : List Post). rows_in rows (filter (λ post. has_home f.indexers f.number post.tags) c.args.rows)) c.reserve.ensures.items) in (
      c.self.invariant.0,
      subst (λ (x : IndexerState). AreKept x.number x.indexers x.pair x.rows) (sym is) (posted_kept i c.args.epochs.now c.args.m c.args.upto c.args.rows c.self.invariant.1 may),
      subst (λ (x : IndexerState). All (IsRowListed x.number x.indexers c.list_rows.new.updates c.list_rows.new.tagged) x.rows) (sym is)
          (posted_listed i c.args.epochs.now c.args.m c.args.upto c.args.rows c.self.invariant.1 may f.updates f.tagged c.list_rows.new.updates c.list_rows.new.tagged c.list_rows.ensures.updates c.list_rows.ensures.tagged c.self.invariant.2 c.in_ok-list_rows.ensures.listed),
    )

pub returns-clause-log : goal.returns-clause-log
returns-clause-log c = λ log indexed of_log.
    (let f = c.self.inside in
    let i : IndexerState = record { number = f.number; indexers = f.indexers; pair = record { epochs = f.epochs; marks = f.marks }; rows = f.rows.items } in
    let may : MayPost i c.args.epochs.now c.args.m c.args.upto c.args.rows =
    may_alike i c.args.self.now c.args.epochs.now c.args.m c.args.upto c.args.rows c.self.view_is (record { member = c.requires.member; prefix = c.requires.prefix; begun = c.requires.begun; own = c.requires.rows }) in
    let is = posted_by i c.args.epochs.now c.take_longer.new.self c.args.m c.args.upto c.args.rows c.put_rows.new.rows.items (set f.marks c.args.m c.max.result) c.in_ok-take_longer.ensures.ok (ap (λ (k : ℕ). set f.marks c.args.m k) c.max.ensures)
    (c.put_rows.ensures ∙ ap (λ (rows : List Post). rows_in rows (filter (λ post. has_home f.indexers f.number post.tags) c.args.rows)) c.reserve.ensures.items) in
    subst (λ (x : IndexerState). IsIndexed log x) (sym is) (posted_log i c.args.epochs.now c.args.m c.args.upto c.args.rows c.self.invariant.1 may log (subst (λ (x : IndexerState). IsIndexed log x) (sym c.self.view_is) indexed) of_log))

pub returns-clause-truth : goal.returns-clause-truth
returns-clause-truth c = λ t placed pair mark.
    (let f = c.self.inside in
    let i : IndexerState = record { number = f.number; indexers = f.indexers; pair = record { epochs = f.epochs; marks = f.marks }; rows = f.rows.items } in
    let P : ℕ → Type 0 = λ p. IsTrue (placed p) in
    let is = posted_by i c.args.epochs.now c.take_longer.new.self c.args.m c.args.upto c.args.rows c.put_rows.new.rows.items (set f.marks c.args.m c.max.result) c.in_ok-take_longer.ensures.ok (ap (λ (k : ℕ). set f.marks c.args.m k) c.max.ensures)
    (c.put_rows.ensures ∙ ap (λ (rows : List Post). rows_in rows (filter (λ post. has_home f.indexers f.number post.tags) c.args.rows)) c.reserve.ensures.items) in
    subst (λ (x : IndexerState). IsTruePair t P x.pair) (sym is) (posted_true t c.args.epochs.now P i.pair c.args.m c.args.upto (subst (λ (x : IndexerState). IsTruePair t P x.pair) (sym c.self.view_is) pair) mark))
