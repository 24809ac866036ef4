-- What a maintainer posts to an indexer.
use Rattle.std.proofs.Common.{◌≡◌, ℕ, zero, suc, ◌-◌, ◌<◌, ◌≤◌, max, Bool, true, false, cond, leb, ltb, ◌&&◌, List, [], ◌∷◌, length, map, take, drop, get_or, set, refl, ap, sym, ◌∙◌, subst, inl, inr, arith}
use Rattle.std.specs.List.{All, AllPairs, Contains, filter, list_any}
use Rattle.std.proofs.lemmas.List.{set-get_or}
use Rattle.std.proofs.lemmas.List.Elements.{All-nil, All-cons, All-head, All-tail}
use Rattle.std.proofs.lemmas.List.Kept.{AllPairs-cons, AllPairs-filter}
use Rattle.std.proofs.lemmas.Bool.{cond-true, cond_both, and_parts, and_from, le-leb, lt-ltb, leb-true, ltb-true}
use Rattle.causal_deps.specs.declared.record.Record.{Record}
use Rattle.flstore_rounds.specs.Epochs.{EpochList, longer, owner}
use Rattle.flstore_rounds.specs.Heads.{mark_at}
use Rattle.maintainer.specs.declared.slot.Slot.{Slot}
use Rattle.maintainer.specs.Maintainers.{AreRising, MaintainerState, mark_of, times_in}
use Rattle.maintainer.proofs.CountLemmas.{All-tested, entry_there, none_counted}
use Rattle.tag_indexer.specs.declared.post.Post.{Post}
use Rattle.tag_indexer.specs.Indexers.{AreOwnRows, IndexerState, posted}
use Rattle.stage_world.specs.MoreTurns.{posted_to, row_made}
use Rattle.stage_world.proofs.PostTurn.{made_at}
use Rattle.stage_world.proofs.ListLemmas.{Contains-head, Contains-tail, Contains-cases, Contains-filter}
use Rattle.stage_turns.specs.Posting.{MayPost, is_between, post_mark}

-- entries in order, from a place on and up to another one

none_between : (es : List (Slot Record)) (low top : ℕ) → All (λ e. top ≤ e.lid) es → filter (is_between low top) es ≡ []
none_between [] low top high = refl
none_between (x ∷ xs) low top high =
    let over : top ≤ x.lid = All-head (λ (e : Slot Record). top ≤ e.lid) x xs high in
    cond_both (is_between low top x) (x ∷ filter (is_between low top) xs) (filter (is_between low top) xs) (λ ys. ys ≡ [])
    (λ is. let below : x.lid < top = ltb-true x.lid top (and_parts (leb low x.lid) (ltb x.lid top) is).1 in absurd (omega arith))
    (λ _. none_between xs low top (All-tail (λ (e : Slot Record). top ≤ e.lid) x xs high))

-- those below `low` are the first a, and those below `top` the first b
pub record AreParted (es : List (Slot Record)) (low a : ℕ) : Type 0 where
  pub few : a ≤ length es
  pub below : (k : ℕ) (d : Slot Record) → k < a → (get_or es k d).lid < low
  pub above : (k : ℕ) (d : Slot Record) → a ≤ k → k < length es → low ≤ (get_or es k d).lid

parted_tail : (x : Slot Record) (xs : List (Slot Record)) (low a b : ℕ) → a - 1 ≡ b → AreParted (x ∷ xs) low a → AreParted xs low b
parted_tail x xs low a b less h = record {
  few = omega (arith, h.few, less);
  below = λ k d lt. h.below (suc k) d (omega (arith, less));
  above = λ k d from lt. h.above (suc k) d (omega (arith, less)) (omega arith);
}

pub between_is : (es : List (Slot Record)) (low top a b : ℕ) → AreParted es low a → AreParted es top b → take (max b a - a) (drop a es) ≡ filter (is_between low top) es
between_is [] low top zero b first last = take_none (max b 0 - 0)
  where
    take_none : (n : ℕ) → take {A = Slot Record} n [] ≡ []
    take_none zero = refl
    take_none (suc n) = refl
between_is [] low top (suc a) b first last = absurd (omega (arith, first.few))
between_is (x ∷ xs) low top (suc a) b first last =
    let under : x.lid < low = first.below 0 x (omega arith) in
    ap (λ n. take n (drop a xs)) (omega arith)
    ∙ between_is xs low top a (b - 1) (parted_tail x xs low (suc a) a (omega arith) first) (parted_tail x xs top b (b - 1) refl last)
    ∙ sym (cond_both (is_between low top x) (x ∷ filter (is_between low top) xs) (filter (is_between low top) xs) (λ ys. ys ≡ filter (is_between low top) xs)
    (λ is. let over : low ≤ x.lid = leb-true low x.lid (and_parts (leb low x.lid) (ltb x.lid top) is).0 in absurd (omega arith)) (λ _. refl))
between_is (x ∷ xs) low top zero zero first last = sym (none_between (x ∷ xs) low top (λ k d lt. last.above k d (omega arith) lt))
between_is (x ∷ xs) low top zero (suc b) first last =
    let over : low ≤ x.lid = first.above 0 x (omega arith) (omega arith) in
    let under : x.lid < top = last.below 0 x (omega arith) in
    let one : max (suc b) 0 - 0 ≡ suc b = omega arith in
    let two : b ≡ max b 0 - 0 = omega arith in
    ap (λ n. take n (x ∷ xs)) one ∙ ap (λ n. x ∷ take n xs) two
    ∙ ap (λ ys. x ∷ ys) (between_is xs low top zero b (parted_tail x xs low zero zero (omega arith) first) (parted_tail x xs top (suc b) b (omega arith) last))
    ∙ sym (cond-true (is_between low top x) (x ∷ filter (is_between low top) xs) (filter (is_between low top) xs) (and_from (leb low x.lid) (ltb x.lid top) (le-leb low x.lid over) (lt-ltb x.lid top under)))

-- what is posted

All-made : (P : Post → Type 0) (es : List (Slot Record)) → All (λ e. P (row_made e)) es → All P (map row_made es)
All-made P [] all = All-nil P
All-made P (x ∷ xs) all = All-cons P (row_made x) (map row_made xs) (All-head (λ (e : Slot Record). P (row_made e)) x xs all) (All-made P xs (All-tail (λ (e : Slot Record). P (row_made e)) x xs all))

made_rise : (es : List (Slot Record)) → AllPairs (λ a b. a.lid < b.lid) es → AllPairs (λ a b. a.place.lid < b.place.lid) (map row_made es)
made_rise [] rise = λ i j d before within. absurd (omega arith)
made_rise (x ∷ xs) rise =
    AllPairs-cons (λ (a b : Post). a.place.lid < b.place.lid) (row_made x) (map row_made xs) (All-made (λ (post : Post). x.lid < post.place.lid) xs (λ k d within. rise 0 (suc k) d (omega arith) (omega arith)))
    (made_rise xs (λ i j d before within. rise (suc i) (suc j) d (omega arith) (omega arith)))

-- nothing is between a position and one that is no higher
pub none_past : (es : List (Slot Record)) (low top : ℕ) → top ≤ low → filter (is_between low top) es ≡ []
none_past [] low top past = refl
none_past (x ∷ xs) low top past = cond_both (is_between low top x) (x ∷ filter (is_between low top) xs) (filter (is_between low top) xs) (λ ys. ys ≡ [])
    (λ is. let tests = and_parts (leb low x.lid) (ltb x.lid top) is in absurd (omega (arith, leb-true low x.lid tests.0, ltb-true x.lid top tests.1)))
    (λ _. none_past xs low top past)

module _ (x : MaintainerState Record) (m : ℕ) (i : IndexerState) (may : MayPost x m i) where
  abbrev low : ℕ
  low = mark_at i.pair m

  abbrev e : EpochList
  e = longer i.pair.epochs x.epochs

  abbrev rows : ℕ → List Post
  rows top = map row_made (filter (is_between low top) x.entries)

  abbrev gone : Bool
  gone = list_any (λ p. leb low p && ltb p (mark_of x)) x.gone

  rows_to : (top : ℕ) → AreRising x.entries → ((p : ℕ) → low ≤ p → p < top → owner e p ≡ m → 1 ≤ times_in p x.entries) → AreOwnRows e m low top (rows top)
  rows_to top rise there = record {
    rising = made_rise (filter (is_between low top) x.entries) (AllPairs-filter (λ (a b : Slot Record). a.lid < b.lid) (is_between low top) x.entries (λ j k d before within. rise.below j k d before within));
    own = All-made (λ post. (low ≤ post.place.lid) × (post.place.lid < top) × (owner e post.place.lid ≡ m)) (filter (is_between low top) x.entries) (λ k d within.
        let has = All-tested (λ s. owner e s.lid ≡ m) (is_between low top) x.entries may.own k d within in
        let slot : Slot Record = get_or (filter (is_between low top) x.entries) k d in
        let tests = and_parts (leb low slot.lid) (ltb slot.lid top) has.1 in
        (leb-true low slot.lid tests.0, ltb-true slot.lid top tests.1, has.0));
    whole = λ p from to own.
        let found = entry_there p x.entries (there p from to own) in
        let picked : Contains (filter (is_between low top) x.entries) found.0 = Contains-filter (is_between low top) x.entries found.0 found.1
        (and_from (leb low found.0.lid) (ltb found.0.lid top) (le-leb low found.0.lid (omega (arith, from, found.2))) (lt-ltb found.0.lid top (omega (arith, to, found.2)))) in
        subst (Contains (map (λ (post : Post). post.place.lid) (rows top))) found.2 (made_at (filter (is_between low top) x.entries) found.0 picked);
  }

  -- what is posted are the maintainer's own rows
  pub rows_own : AreRising x.entries → 1 ≤ low → AreOwnRows e m low (post_mark x low) (rows (post_mark x low))
  rows_own rise first = cond_both gone low (mark_of x) (λ top. AreOwnRows e m low top (rows top))
      (λ _. rows_to low rise (λ p from to own. absurd (omega arith)))
      (λ none. rows_to (mark_of x) rise (λ p from to own. omega (arith, may.filled p (omega arith) to own, none_counted low (mark_of x) p x.gone none from to)))

  -- the indexer is the one that the stage world has
  pub posted_is : posted i x.epochs m (post_mark x low) (rows (post_mark x low)) ≡ posted_to i x m
  posted_is = by_gone gone
    where
      nothing : posted i x.epochs m low (rows low) ≡ record i { pair = record i.pair { epochs = longer i.pair.epochs x.epochs } }
      nothing =
          ap (λ (es : List (Slot Record)). posted i x.epochs m low (map row_made es)) (none_past x.entries low low (omega arith))
          ∙ ap (λ (ms : List ℕ). record i { pair = record { epochs = longer i.pair.epochs x.epochs; marks = ms } })
          (ap (λ (n : ℕ). set i.pair.marks m n) (omega arith) ∙ set-get_or i.pair.marks m 0)

      by_gone : (b : Bool) → posted i x.epochs m (cond b low (mark_of x)) (rows (cond b low (mark_of x)))
          ≡ cond b (record i { pair = record i.pair { epochs = longer i.pair.epochs x.epochs } }) (posted i x.epochs m (mark_of x) (rows (mark_of x)))
      by_gone true = nothing
      by_gone false = refl

  -- the same of what was read

  rows_are : (start end : ℕ) (entries : List (Slot Record)) (read : List Post) → start ≡ low → end ≡ post_mark x start → entries ≡ x.entries → read ≡ map row_made (filter (is_between start end) entries)
      → (end ≡ post_mark x low) × (read ≡ rows (post_mark x low))
  rows_are start end entries read is_start is_end are reads =
      let ends : end ≡ post_mark x low = is_end ∙ ap (post_mark x) is_start in (
        ends,
        reads ∙ ap (λ (es : List (Slot Record)). map row_made (filter (is_between start end) es)) are ∙ ap (λ (n : ℕ). map row_made (filter (is_between n end) x.entries)) is_start
            ∙ ap (λ (n : ℕ). map row_made (filter (is_between low n) x.entries)) ends,
      )

  pub read_own : (start end : ℕ) (entries : List (Slot Record)) (read : List Post) (epochs : EpochList) → start ≡ low → 1 ≤ start → end ≡ post_mark x start → entries ≡ x.entries → AreRising x.entries
      → read ≡ map row_made (filter (is_between start end) entries) → epochs ≡ x.epochs → AreOwnRows (longer i.pair.epochs epochs) m low end read
  read_own start end entries read epochs is_start first is_end are rise reads known =
      let both = rows_are start end entries read is_start is_end are reads in
      subst (λ (rs : List Post). AreOwnRows (longer i.pair.epochs epochs) m low end rs) (sym both.1)
      (subst (λ (n : ℕ). AreOwnRows (longer i.pair.epochs epochs) m low n (rows (post_mark x low))) (sym both.0)
      (subst (λ (es : EpochList). AreOwnRows (longer i.pair.epochs es) m low (post_mark x low) (rows (post_mark x low))) (sym known) (rows_own rise (omega (arith, first, is_start)))))

  pub read_posted : (start end : ℕ) (entries : List (Slot Record)) (read : List Post) (epochs : EpochList) → start ≡ low → end ≡ post_mark x start → entries ≡ x.entries
      → read ≡ map row_made (filter (is_between start end) entries) → epochs ≡ x.epochs → posted i epochs m end read ≡ posted_to i x m
  read_posted start end entries read epochs is_start is_end are reads known =
      let both = rows_are start end entries read is_start is_end are reads in
      ap (λ (es : EpochList). posted i es m end read) known ∙ ap (λ (n : ℕ). posted i x.epochs m n read) both.0 ∙ ap (λ (rs : List Post). posted i x.epochs m (post_mark x low) rs) both.1 ∙ posted_is
