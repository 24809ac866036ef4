-- Where stages stand for a log, a maintainer may post; and what posting leaves is the stage world's turn.
use Rattle.std.proofs.Common.{◌≡◌, ◌≢◌, ℕ, ◌<◌, ◌≤◌, max, cond, leb, ltb, ◌&&◌, nat_lt, List, length, map, set, get_or, ap, sym, ◌∙◌, subst, inl, inr, arith}
use Rattle.std.specs.List.{filter, list_any}
use Rattle.std.proofs.lemmas.Bool.{cases_lt, lt-ltb, le-ltb}
use Rattle.std.proofs.lemmas.List.{get_or-map, get_or-set_same, length-set, map-set, set-get_or}
use Rattle.causal_deps.specs.declared.record.Record.{Record}
use Rattle.abstract_log.specs.declared.world.World.{World}
use Rattle.flstore_rounds.specs.Epochs.{longer}
use Rattle.flstore_rounds.specs.Heads.{mark_at}
use Rattle.maintainer.specs.Maintainers.{MaintainerState, plain}
use Rattle.maintainer.proofs.StateLemmas.{plain_mark}
use Rattle.maintainer.specs.declared.slot.Slot.{Slot}
use Rattle.tag_indexer.specs.declared.post.Post.{Post}
use Rattle.tag_indexer.specs.Indexers.{IndexerState, posted as rows_posted}
use Rattle.stage_world.specs.Stages.{Datacentre, maintainer_at, indexer_at, no_indexer, no_epochs}
use Rattle.stage_world.specs.StandsFor.{StandsAt}
use Rattle.stage_world.specs.MoreTurns.{posted, posted_to, row_made}
use Rattle.stage_world.specs.Idle.{TellsChange, apart_from_epochs, indexer_apart}
use Rattle.stage_world.proofs.PostTurn.{known, begun, entries_own, filled_below}
use Rattle.stage_turns.specs.Posting.{MayPost, is_between, post_mark}
use Rattle.stage_turns.proofs.PostingLemmas.{none_past, posted_is}
use Rattle.stage_turns.proofs.ChangeLemmas.{tells_other, tells_same}

pub may_post : (w : World) (d : ℕ) (z : Datacentre) (m i : ℕ) → m < length z.maintainers → i < length z.indexers → StandsAt w d z → MayPost (maintainer_at z.maintainers m) m (indexer_at z.indexers i)
may_post w d z m i in_m in_i h = record {
  member = omega (arith, in_m, h.membership.members.ranges.maintainers.1);
  known = known w d z m i in_m in_i h;
  begun = begun w d z m i in_m in_i h;
  own = entries_own w d z m i in_m in_i h;
  filled = filled_below w d z m i in_m in_i h;
}

-- whatever room the maintainer has
pub may_plain : (x y : MaintainerState Record) (m : ℕ) (i : IndexerState) → plain x ≡ y → MayPost y m i → MayPost x m i
may_plain x y m i same may =
    let one : MayPost (plain x) m i = subst (λ (n : MaintainerState Record). MayPost n m i) (sym same) may in
    record { member = one.member; known = one.known; begun = one.begun; own = one.own; filled = λ p first to own. one.filled p first (omega (arith, to, plain_mark x)) own }

pub mark_plain : (x y : MaintainerState Record) (low : ℕ) → plain x ≡ y → post_mark x low ≡ post_mark y low
mark_plain x y low same = ap (λ (n : ℕ). cond (list_any (λ p. leb low p && ltb p n) x.gone) low n) (sym (plain_mark x)) ∙ ap (λ (n : MaintainerState Record). post_mark n low) same

pub posted_plain : (i : IndexerState) (x y : MaintainerState Record) (m : ℕ) → plain x ≡ y → posted_to i x m ≡ posted_to i y m
posted_plain i x y m same =
    ap (λ (n : ℕ). cond (list_any (λ p. leb (mark_at i.pair m) p && ltb p n) x.gone) (record i { pair = record i.pair { epochs = longer i.pair.epochs x.epochs } })
    (rows_posted i x.epochs m n (map row_made (filter (is_between (mark_at i.pair m) n) x.entries)))) (sym (plain_mark x))
    ∙ ap (λ (n : MaintainerState Record). posted_to i n m) same

-- marks and rows are others exactly where there is something to post
module _ (z : Datacentre) (m i : ℕ) (in_i : i < length z.indexers) (small : m < length (indexer_at z.indexers i).pair.marks) (may : MayPost (maintainer_at z.maintainers m) m (indexer_at z.indexers i)) where
  abbrev old : IndexerState
  old = indexer_at z.indexers i

  abbrev x : MaintainerState Record
  x = maintainer_at z.maintainers m

  abbrev low : ℕ
  low = mark_at old.pair m

  abbrev top : ℕ
  top = post_mark x low

  abbrev new : IndexerState
  new = posted_to old x m

  abbrev brought : List Post
  brought = map row_made (filter (is_between low top) x.entries)

  is : rows_posted old x.epochs m top brought ≡ new
  is = posted_is x m old may

  new_mark : mark_at new.pair m ≡ max low top
  new_mark = ap (λ (n : IndexerState). mark_at n.pair m) (sym is) ∙ get_or-set_same old.pair.marks m (max low top) 0 small

  -- nothing is posted: the same marks and rows
  idle : top ≤ low → indexer_apart new ≡ indexer_apart old
  idle none =
      ap (λ (n : IndexerState). indexer_apart n) (sym is)
      ∙ ap (λ (es : List (Slot Record)). indexer_apart (rows_posted old x.epochs m top (map row_made es))) (none_past x.entries low top none)
      ∙ ap (λ (ms : List ℕ). record old { pair = record { epochs = no_epochs; marks = ms } }) (ap (λ (n : ℕ). set old.pair.marks m n) (omega (arith, none)) ∙ set-get_or old.pair.marks m 0)

  all_idle : top ≤ low → apart_from_epochs z ≡ apart_from_epochs (posted z m i)
  all_idle none = ap (λ (is : List IndexerState). record (apart_from_epochs z) { indexers = is })
      (sym (map-set indexer_apart z.indexers i new ∙ ap (set (map indexer_apart z.indexers) i) (idle none ∙ sym (get_or-map indexer_apart z.indexers i no_indexer no_indexer in_i)) ∙ set-get_or (map indexer_apart z.indexers) i no_indexer))

  other : low < top → apart_from_epochs z ≢ apart_from_epochs (posted z m i)
  other more same =
      let here : indexer_apart old ≡ indexer_apart new =
      sym (get_or-map indexer_apart z.indexers i no_indexer no_indexer in_i)
      ∙ ap (λ (y : Datacentre). get_or y.indexers i no_indexer) same
      ∙ get_or-map indexer_apart (set z.indexers i new) i no_indexer no_indexer (omega (arith, in_i, length-set z.indexers i new))
      ∙ ap indexer_apart (get_or-set_same z.indexers i new no_indexer in_i) in
      absurd (omega (arith, more, ap (λ (n : IndexerState). mark_at n.pair m) here, new_mark))

  pub post_tells : TellsChange (nat_lt low top) z (posted z m i)
  post_tells = elim (cases_lt low top) [
    | inl more ↦ subst (λ b. TellsChange b z (posted z m i)) (sym (lt-ltb low top more)) (tells_other (apart_from_epochs z) (apart_from_epochs (posted z m i)) (other more))
    | inr none ↦ subst (λ b. TellsChange b z (posted z m i)) (sym (le-ltb low top none)) (tells_same (apart_from_epochs z) (apart_from_epochs (posted z m i)) (all_idle none))
  ]
