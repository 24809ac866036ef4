-- What an indexer keeps once rows are posted.
use Rattle.std.proofs.Common.{◌≡◌, ◌⊎◌, ℕ, ◌<◌, ◌≤◌, max, Bool, true, List, set, ap, sym, ◌∙◌, subst, arith}
use Rattle.std.specs.List.{All, filter}
use Rattle.std.proofs.lemmas.List.{length-set}
use Rattle.std.proofs.lemmas.List.Elements.{All-weaker, All-get_or, All-set}
use Rattle.causal_deps.specs.declared.record.Record.{Record}
use Rattle.flstore_rounds.specs.Epochs.{EpochList, owner, longer, IsPrefix}
use Rattle.flstore_rounds.specs.Heads.{Pair, mark_at, with_own, IsTruePair, IsTrueMark, IsBelowMark}
use Rattle.flstore_rounds.proofs.HeadLemmas.{single_true, with_own_true}
use Rattle.tag_indexer.specs.declared.post.Post.{Post}
use Rattle.tag_indexer.specs.Rows.{has_home, rows_in}
use Rattle.tag_indexer.specs.Indexers.{IndexerState, AreBegun, AreKept, AreOwnRows, posted}
use Rattle.tag_indexer.specs.Indexed.{IsIndexed, IsRowOf}
use Rattle.tag_indexer.specs.TagIndexes.{IsRowListed, ListsAll}
use Rattle.tag_indexer.proofs.RowLemmas.{All-passed, All-rows_in, apart_rising, posted_rise, posted_indexed, still_covered, new_marked}
use Rattle.tag_indexer.proofs.ListedLemmas.{listed_more}

-- what a call of post asks
pub record MayPost (i : IndexerState) (e : EpochList) (m upto : ℕ) (rows : List Post) : Type 0 where
  pub member : m < 16
  pub prefix : IsPrefix i.pair.epochs e ⊎ IsPrefix e i.pair.epochs
  pub begun : AreBegun i.pair e
  pub own : AreOwnRows (longer i.pair.epochs e) m (mark_at i.pair m) upto rows

-- the same of an equal indexer
pub may_alike : (v i : IndexerState) (e : EpochList) (m upto : ℕ) (rows : List Post) → v ≡ i → MayPost i e m upto rows → MayPost v e m upto rows
may_alike v i e m upto rows same may = subst (λ x. MayPost x e m upto rows) (sym same) may

-- its fields, once posted
pub posted_by : (i : IndexerState) (e epochs : EpochList) (m upto : ℕ) (rows more : List Post) (marks : List ℕ) → epochs ≡ longer i.pair.epochs e → marks ≡ set i.pair.marks m (max (mark_at i.pair m) upto) → more ≡ rows_in i.rows (filter (λ post. has_home i.indexers i.number post.tags) rows)
    → record { number = i.number; indexers = i.indexers; pair = record { epochs = epochs; marks = marks }; rows = more } ≡ posted i e m upto rows
posted_by i e epochs m upto rows more marks longer_is marks_are rows_are =
    ap (λ (x : EpochList). record { number = i.number; indexers = i.indexers; pair = record { epochs = x; marks = marks }; rows = more }) longer_is
    ∙ ap (λ (x : List ℕ). record { number = i.number; indexers = i.indexers; pair = record { epochs = longer i.pair.epochs e; marks = x }; rows = more }) marks_are
    ∙ ap (λ (x : List Post). record { number = i.number; indexers = i.indexers; pair = with_own i.pair e m upto; rows = x }) rows_are

module _ (i : IndexerState) (e : EpochList) (m upto : ℕ) (rows : List Post) (kept : AreKept i.number i.indexers i.pair i.rows) (may : MayPost i e m upto rows) where
  abbrev new : IndexerState
  new = posted i e m upto rows

  abbrev here : Post → Bool
  here post = has_home i.indexers i.number post.tags

  first : 1 ≤ mark_at i.pair m
  first = All-get_or (λ (k : ℕ). 1 ≤ k) i.pair.marks m 0 (omega (arith, kept.size, may.member)) kept.some

  abbrev IsOwn : Post → Type 0
  IsOwn post = (1 ≤ post.place.lid) × (mark_at i.pair m ≤ post.place.lid) × (post.place.lid < upto) × (owner (longer i.pair.epochs e) post.place.lid ≡ m)

  own : All IsOwn rows
  own = λ k d within. (let row = may.own.own k d within in (omega (arith, row.0, first), row.0, row.1, row.2))

  came : All (λ post. IsOwn post × (here post ≡ true)) (filter here rows)
  came = All-passed IsOwn here rows own

  abbrev IsMarked : Pair → Post → Type 0
  IsMarked v post = (1 ≤ post.place.lid) × IsBelowMark v post.place.lid

  pub posted_kept : AreKept new.number new.indexers new.pair new.rows
  posted_kept = record {
    size = length-set i.pair.marks m (max (mark_at i.pair m) upto) ∙ kept.size;
    some = All-set (λ (k : ℕ). 1 ≤ k) i.pair.marks m (max (mark_at i.pair m) upto) (omega (arith, first)) kept.some;
    marked = All-rows_in (IsMarked new.pair) i.rows (filter here rows)
        (All-weaker (IsMarked i.pair) (IsMarked new.pair) (λ post has. (has.0, still_covered i.pair e m upto may.prefix may.begun post.place.lid has.1)) i.rows kept.marked)
        (All-weaker (λ post. IsOwn post × (here post ≡ true)) (IsMarked new.pair) (λ post has. (has.0.0, new_marked i e m upto rows may.member may.prefix may.begun (apart_rising rows may.own.rising) own (λ p low. may.own.whole p) kept.size post has.0)) (filter here rows) came);
    homes = All-rows_in (λ post. here post ≡ true) i.rows (filter here rows) kept.homes (All-weaker (λ post. IsOwn post × (here post ≡ true)) (λ post. here post ≡ true) (λ post has. has.1) (filter here rows) came);
    rising = posted_rise i e m upto rows may.member may.prefix may.begun (apart_rising rows may.own.rising) own (λ p low. may.own.whole p) kept.rising
        (All-weaker (IsMarked i.pair) (λ post. IsBelowMark i.pair post.place.lid) (λ post has. has.1) i.rows kept.marked);
  }

  pub posted_log : (log : List Record) → IsIndexed log i → All (IsRowOf log) rows → IsIndexed log new
  posted_log log indexed of_log = posted_indexed i e m upto rows may.member may.prefix may.begun (apart_rising rows may.own.rising) own (λ p low. may.own.whole p) log indexed of_log

  pub posted_listed : (updates tagged updates_new tagged_new : List (List ℕ × List ℕ)) → ListsAll updates updates_new → ListsAll tagged tagged_new → All (IsRowListed i.number i.indexers updates tagged) i.rows → All (IsRowListed i.number i.indexers updates_new tagged_new) rows
      → All (IsRowListed i.number i.indexers updates_new tagged_new) new.rows
  posted_listed updates tagged updates_new tagged_new more_updates more_tagged was came_listed =
      let Q : Post → Type 0 = IsRowListed i.number i.indexers updates_new tagged_new in
      All-rows_in Q i.rows (filter here rows) (All-weaker (IsRowListed i.number i.indexers updates tagged) Q (listed_more i.number i.indexers updates tagged updates_new tagged_new more_updates more_tagged) i.rows was)
      (All-weaker (λ post. Q post × (here post ≡ true)) Q (λ post has. has.0) (filter here rows) (All-passed Q here rows came_listed))

-- a true pair stays so
pub posted_true : (t e : EpochList) (P : ℕ → Type 0) (v : Pair) (m upto : ℕ) → IsTruePair t P v → IsTrueMark t e P m upto → IsTruePair t P (with_own v e m upto)
posted_true t e P v m upto pair mark = with_own_true t e P v m upto pair (single_true t e P m upto mark)

-- where nothing is posted, all is kept
pub kept_same : (number indexers : ℕ) (e epochs : EpochList) (marks : List ℕ) (rows same : List Post) → epochs ≡ e → same ≡ rows → AreKept number indexers (record { epochs = e; marks = marks }) rows → AreKept number indexers (record { epochs = epochs; marks = marks }) same
kept_same number indexers e epochs marks rows same epochs_are rows_are kept =
    subst (λ (x : EpochList). AreKept number indexers (record { epochs = x; marks = marks }) same) (sym epochs_are) (subst (λ (x : List Post). AreKept number indexers (record { epochs = e; marks = marks }) x) (sym rows_are) kept)

pub listed_same : (number indexers : ℕ) (updates tagged updates_new tagged_new : List (List ℕ × List ℕ)) (rows same : List Post) → same ≡ rows → ListsAll updates updates_new → ListsAll tagged tagged_new → All (IsRowListed number indexers updates tagged) rows → All (IsRowListed number indexers updates_new tagged_new) same
listed_same number indexers updates tagged updates_new tagged_new rows same is more_updates more_tagged was =
    subst (All (IsRowListed number indexers updates_new tagged_new)) (sym is) (All-weaker (IsRowListed number indexers updates tagged) (IsRowListed number indexers updates_new tagged_new) (listed_more number indexers updates tagged updates_new tagged_new more_updates more_tagged) rows was)
