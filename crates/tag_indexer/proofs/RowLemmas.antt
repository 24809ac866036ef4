-- Rows that are put in their places, and what an indexer has of a log once rows are posted.
use Rattle.std.proofs.Common.{◌≡◌, ◌≢◌, ◌⊎◌, ℕ, suc, ◌-◌, ◌<◌, ◌≤◌, max, Bool, true, ltb, List, [], ◌∷◌, ◌++◌, length, map, get_or, refl, ap, sym, ◌∙◌, subst, inl, inr, arith, slice_get}
use Rattle.std.specs.List.{All, AllPairs, Contains, filter}
use Rattle.std.proofs.lemmas.List.{get_or-set_same, length-set}
use Rattle.std.proofs.lemmas.List.Elements.{All-nil, All-cons, All-head, All-tail, All-weaker, All-contains}
use Rattle.std.proofs.lemmas.List.Kept.{AllPairs-cons, AllPairs-filter}
use Rattle.std.proofs.lemmas.Bool.{cases_lt, cond_both, cond-true, ltb-true, ltb-false}
use Rattle.causal_deps.proofs.Lists.{Contains-here, Contains-there, Contains-cons, slice_get_some, slice_get-append_left}
use Rattle.causal_deps.specs.declared.record.Record.{Record}
use Rattle.flstore_rounds.specs.Epochs.{EpochList, owner, longer, IsPrefix}
use Rattle.flstore_rounds.specs.Heads.{Pair, mark_at, with_own, IsBelowMark}
use Rattle.flstore_rounds.proofs.EpochLemmas.{owner-prefix}
use Rattle.flstore_rounds.proofs.HeadLemmas.{with_own_at}
use Rattle.tag_indexer.specs.declared.post.Post.{Post}
use Rattle.tag_indexer.specs.Rows.{has_home, post_of, row_in, rows_in}
use Rattle.tag_indexer.specs.Indexers.{IndexerState, AreBegun, posted}
use Rattle.tag_indexer.specs.Indexed.{IsIndexed, IsRowOf}

pub row_in_has : (x : Post) (ps : List Post) → Contains (row_in x ps) x
row_in_has x [] = Contains-here x []
row_in_has x (y ∷ ys) = cond_both (ltb x.place.lid y.place.lid) (x ∷ y ∷ ys) (y ∷ row_in x ys) (λ ps. Contains ps x) (λ _. Contains-here x (y ∷ ys)) (λ _. Contains-there y (row_in x ys) x (row_in_has x ys))

pub row_in_keeps : (x p : Post) (ps : List Post) → Contains ps p → Contains (row_in x ps) p
row_in_keeps x p [] has = absurd (omega (arith, has.1))
row_in_keeps x p (y ∷ ys) has = cond_both (ltb x.place.lid y.place.lid) (x ∷ y ∷ ys) (y ∷ row_in x ys) (λ ps. Contains ps p) (λ _. Contains-there x (y ∷ ys) p has)
    (λ _. elim (Contains-cons y ys p has) [
      | inl is ↦ subst (λ u. Contains (u ∷ row_in x ys) p) (sym is) (Contains-here p (row_in x ys))
      | inr rest ↦ Contains-there y (row_in x ys) p (row_in_keeps x p ys rest)
    ])

pub All-row_in : (P : Post → Type 0) (x : Post) (ps : List Post) → P x → All P ps → All P (row_in x ps)
All-row_in P x [] here all = All-cons P x [] here all
All-row_in P x (y ∷ ys) here all = cond_both (ltb x.place.lid y.place.lid) (x ∷ y ∷ ys) (y ∷ row_in x ys) (All P) (λ _. All-cons P x (y ∷ ys) here all)
    (λ _. All-cons P y (row_in x ys) (All-head P y ys all) (All-row_in P x ys here (All-tail P y ys all)))

rows_in_keeps : (rows more : List Post) (p : Post) → Contains rows p → Contains (rows_in rows more) p
rows_in_keeps rows [] p has = has
rows_in_keeps rows (x ∷ xs) p has = rows_in_keeps (row_in x rows) xs p (row_in_keeps x p rows has)

rows_in_has : (rows more : List Post) (p : Post) → Contains more p → Contains (rows_in rows more) p
rows_in_has rows [] p has = absurd (omega (arith, has.1))
rows_in_has rows (x ∷ xs) p has = elim (Contains-cons x xs p has) [
  | inl is ↦ rows_in_keeps (row_in x rows) xs p (subst (λ u. Contains (row_in u rows) p) (sym is) (row_in_has p rows))
  | inr rest ↦ rows_in_has (row_in x rows) xs p rest
]

pub All-rows_in : (P : Post → Type 0) (rows more : List Post) → All P rows → All P more → All P (rows_in rows more)
All-rows_in P rows [] all new = all
All-rows_in P rows (x ∷ xs) all new = All-rows_in P (row_in x rows) xs (All-row_in P x rows (All-head P x xs new) all) (All-tail P x xs new)

-- what is kept of a list passes
pub All-passed : (P : Post → Type 0) (test : Post → Bool) (ps : List Post) → All P ps → All (λ x. P x × (test x ≡ true)) (filter test ps)
All-passed P test [] all = All-nil (λ x. P x × (test x ≡ true))
All-passed P test (x ∷ xs) all =
    let Q : Post → Type 0 = λ y. P y × (test y ≡ true) in
    let rest = All-passed P test xs (All-tail P x xs all) in
    cond_both (test x) (x ∷ filter test xs) (filter test xs) (All Q) (λ passes. All-cons Q x (filter test xs) (All-head P x xs all, passes) rest) (λ _. rest)

passed_has : (test : Post → Bool) (ps : List Post) (p : Post) → Contains ps p → test p ≡ true → Contains (filter test ps) p
passed_has test [] p has passes = absurd (omega (arith, has.1))
passed_has test (x ∷ xs) p has passes = elim (Contains-cons x xs p has) [
  | inl is ↦ rw (cond-true (test x) (x ∷ filter test xs) (filter test xs) (ap test is ∙ passes)) (subst (λ u. Contains (u ∷ filter test xs) p) (sym is) (Contains-here p (filter test xs)))
  | inr rest ↦ cond_both (test x) (x ∷ filter test xs) (filter test xs) (λ ys. Contains ys p) (λ _. Contains-there x (filter test xs) p (passed_has test xs p rest passes)) (λ _. passed_has test xs p rest passes)
]

-- rows that rise by position have each position once

abbrev pub AreRows : List Post → Type 0
AreRows ps = AllPairs (λ a b. a.place.lid < b.place.lid) ps

pub rows_parts : (x : Post) (xs : List Post) → AreRows (x ∷ xs) → All (λ y. x.place.lid < y.place.lid) xs × AreRows xs
rows_parts x xs rise = (λ k d within. rise 0 (suc k) d (omega arith) (omega arith), λ i j d before within. rise (suc i) (suc j) d (omega arith) (omega arith))

-- no row is at p
abbrev pub AreElsewhere : ℕ → List Post → Type 0
AreElsewhere p ps = All (λ x. x.place.lid ≢ p) ps

pub row_in_rises : (x : Post) (ps : List Post) → AreRows ps → AreElsewhere x.place.lid ps → AreRows (row_in x ps)
row_in_rises x [] rise none = AllPairs-cons (λ (a b : Post). a.place.lid < b.place.lid) x [] (All-nil (λ (b : Post). x.place.lid < b.place.lid)) rise
row_in_rises x (y ∷ ys) rise none =
    let R : Post → Post → Type 0 = λ a b. a.place.lid < b.place.lid in
    let parts = rows_parts y ys rise in
    let other : y.place.lid ≢ x.place.lid = All-head (λ (z : Post). z.place.lid ≢ x.place.lid) y ys none in
    cond_both (ltb x.place.lid y.place.lid) (x ∷ y ∷ ys) (y ∷ row_in x ys) AreRows
    (λ low. let before : x.place.lid < y.place.lid = ltb-true x.place.lid y.place.lid low in
    AllPairs-cons R x (y ∷ ys) (All-cons (R x) y ys before (All-weaker (R y) (R x) (λ b later. omega arith) ys parts.0)) rise)
    (λ high. let after : y.place.lid < x.place.lid = omega (arith, ltb-false x.place.lid y.place.lid high, other) in
    AllPairs-cons R y (row_in x ys) (All-row_in (R y) x ys after parts.0) (row_in_rises x ys parts.1 (All-tail (λ (z : Post). z.place.lid ≢ x.place.lid) y ys none)))

-- no two rows are at one position
abbrev pub AreApart : List Post → Type 0
AreApart ps = AllPairs (λ a b. a.place.lid ≢ b.place.lid) ps

pub apart_rising : (ps : List Post) → AreRows ps → AreApart ps
apart_rising ps rise = λ i j d before within same. absurd (omega (arith, rise i j d before within, same))

rows_in_rise : (rows more : List Post) → AreRows rows → AreApart more → All (λ x. AreElsewhere x.place.lid rows) more → AreRows (rows_in rows more)
rows_in_rise rows [] rise new apart = rise
rows_in_rise rows (x ∷ xs) rise new apart =
    rows_in_rise (row_in x rows) xs (row_in_rises x rows rise (All-head (λ (y : Post). AreElsewhere y.place.lid rows) x xs apart)) (λ i j d before within. new (suc i) (suc j) d (omega arith) (omega arith))
    (λ k d within. All-row_in (λ (z : Post). z.place.lid ≢ (get_or xs k d).place.lid) x rows (new 0 (suc k) d (omega arith) (omega arith)) (All-tail (λ (y : Post). AreElsewhere y.place.lid rows) x xs apart k d within))

-- where no mark is above what a list adds, the longer list deals what is below a mark as before
pub dealt_alike : (v : Pair) (e : EpochList) (m p : ℕ) → IsPrefix v.epochs e ⊎ IsPrefix e v.epochs → AreBegun v e → p < mark_at v m → owner (longer v.epochs e) p ≡ owner v.epochs p
dealt_alike v e m p known begun below = cond_both (ltb (length v.epochs.list) (length e.list)) e v.epochs (λ (x : EpochList). owner x p ≡ owner v.epochs p)
    (λ is. let shorter : length v.epochs.list < length e.list = ltb-true (length v.epochs.list) (length e.list) is in
    elim known [
      | inl pre ↦ sym (owner-prefix v.epochs e p pre (λ k d within. omega (arith, begun m k d within)))
      | inr over ↦ absurd (omega (arith, over.shorter))
    ])
    (λ _. refl)

module _ (v : Pair) (e : EpochList) (m upto : ℕ) (known : IsPrefix v.epochs e ⊎ IsPrefix e v.epochs) (begun : AreBegun v e) where
  abbrev w : Pair
  w = with_own v e m upto

  -- what was covered still is
  pub still_covered : (p : ℕ) → IsBelowMark v p → IsBelowMark w p
  still_covered p has =
      let same : owner w.epochs p ≡ owner v.epochs p = dealt_alike v e (owner v.epochs p) p known begun has in
      omega (arith, ap (mark_at w) same, (with_own_at v e m upto (owner v.epochs p)).0)

  -- what is covered now was covered, or is the maintainer's own between the marks
  pub newly_covered : (p : ℕ) → IsBelowMark w p → IsBelowMark v p ⊎ ((mark_at v m ≤ p) × (p < max (mark_at v m) upto) × (owner w.epochs p ≡ m))
  newly_covered p has = elim (cases_lt p (mark_at v (owner w.epochs p))) [
    | inl below ↦
        let same : owner w.epochs p ≡ owner v.epochs p = dealt_alike v e (owner w.epochs p) p known begun below in
        inl (omega (arith, ap (mark_at v) same))
    | inr above ↦ elim (with_own_at v e m upto (owner w.epochs p)).1 [
      | inl same ↦ absurd (omega arith)
      | inr own ↦ inr (omega (arith, ap (mark_at v) own.0), omega (arith, own.1, ap (mark_at v) own.0), own.0)
    ]
  ]

-- a row among those at a position
row_at : (p : ℕ) (rows : List Post) → Contains (map (λ (x : Post). x.place.lid) rows) p → (x : Post) × Contains rows x × (x.place.lid ≡ p)
row_at p [] has = absurd (omega (arith, has.1))
row_at p (x ∷ xs) has = elim (Contains-cons x.place.lid (map (λ (y : Post). y.place.lid) xs) p has) [
  | inl is ↦ (x, Contains-here x xs, is)
  | inr rest ↦ let found = row_at p xs rest in (found.0, Contains-there x xs found.0 found.1, found.2)
]

module _ (i : IndexerState) (e : EpochList) (m upto : ℕ) (rows : List Post) (few : m < 16)
    (known : IsPrefix i.pair.epochs e ⊎ IsPrefix e i.pair.epochs) (begun : AreBegun i.pair e)
    (once : AreApart rows) (own : All (λ post. (1 ≤ post.place.lid) × (mark_at i.pair m ≤ post.place.lid) × (post.place.lid < upto) × (owner (longer i.pair.epochs e) post.place.lid ≡ m)) rows)
    (whole : (p : ℕ) → 1 ≤ p → mark_at i.pair m ≤ p → p < upto → owner (longer i.pair.epochs e) p ≡ m → Contains (map (λ post. post.place.lid) rows) p) where
  abbrev new : IndexerState
  new = posted i e m upto rows

  abbrev here : Post → Bool
  here post = has_home i.indexers i.number post.tags

  abbrev kept : List Post
  kept = filter here rows

  abbrev IsOwn : Post → Type 0
  IsOwn post = (1 ≤ post.place.lid) × (mark_at i.pair m ≤ post.place.lid) × (post.place.lid < upto) × (owner (longer i.pair.epochs e) post.place.lid ≡ m)

  kept_own : All (λ post. IsOwn post × (here post ≡ true)) kept
  kept_own = All-passed IsOwn here rows own

  top : length i.pair.marks ≡ 16 → mark_at new.pair m ≡ max (mark_at i.pair m) upto
  top size = get_or-set_same i.pair.marks m (max (mark_at i.pair m) upto) 0 (omega (arith, size))

  -- a row that comes is of a position that had none
  apart : All (λ post. IsBelowMark i.pair post.place.lid) i.rows → All (λ x. AreElsewhere x.place.lid i.rows) kept
  apart marked = λ k d within j c there same.
      (let new_row = kept_own k d within in
      let old_row = marked j c there in
      let at : owner i.pair.epochs (get_or i.rows j c).place.lid ≡ owner (longer i.pair.epochs e) (get_or kept k d).place.lid =
      sym (dealt_alike i.pair e (owner i.pair.epochs (get_or i.rows j c).place.lid) (get_or i.rows j c).place.lid known begun old_row) ∙ ap (owner (longer i.pair.epochs e)) same in
      absurd (omega (arith, old_row, ap (mark_at i.pair) (at ∙ new_row.0.3), new_row.0.1, same)))

  pub posted_rise : AreRows i.rows → All (λ post. IsBelowMark i.pair post.place.lid) i.rows → AreRows new.rows
  posted_rise rise marked = rows_in_rise i.rows kept rise (AllPairs-filter (λ (a b : Post). a.place.lid ≢ b.place.lid) here rows once) (apart marked)

  pub new_marked : length i.pair.marks ≡ 16 → (x : Post) → IsOwn x → IsBelowMark new.pair x.place.lid
  new_marked size x has = omega (arith, ap (mark_at new.pair) has.3, top size, has.2)

  pub posted_indexed : (log : List Record) → IsIndexed log i → All (IsRowOf log) rows → IsIndexed log new
  posted_indexed log h of_log =
      let IsRow : Pair → Post → Type 0 = λ v post. (1 ≤ post.place.lid) × IsBelowMark v post.place.lid × IsRowOf log post in
      let of_both : All (λ post. IsOwn post × IsRowOf log post) rows = λ k d within. (own k d within, of_log k d within) in
      let new_row : (x : Post) → (IsOwn x × IsRowOf log x) × (here x ≡ true) → IsRow new.pair x = λ x has. (has.0.0.0, new_marked h.size x has.0.0, has.0.1) in
      record {
        size = length-set i.pair.marks m (max (mark_at i.pair m) upto) ∙ h.size;
        rows = All-rows_in (IsRow new.pair) i.rows kept
            (All-weaker (IsRow i.pair) (IsRow new.pair) (λ post has. (has.0, still_covered i.pair e m upto known begun post.place.lid has.1, has.2)) i.rows h.rows)
            (All-weaker (λ x. (IsOwn x × IsRowOf log x) × (here x ≡ true)) (IsRow new.pair) new_row kept (All-passed (λ x. IsOwn x × IsRowOf log x) here rows of_both));
        homes = All-rows_in (λ post. here post ≡ true) i.rows kept h.homes (All-weaker (λ x. IsOwn x × (here x ≡ true)) (λ x. here x ≡ true) (λ x has. has.1) kept kept_own);
        rising = posted_rise h.rising (All-weaker (IsRow i.pair) (λ x. IsBelowMark i.pair x.place.lid) (λ x has. has.1) i.rows h.rows);
        complete = λ p r low covered is home. elim (newly_covered i.pair e m upto known begun p covered) [
          | inl before ↦ rows_in_keeps i.rows kept (post_of p r) (h.complete p r low before is home)
          | inr mine ↦
              let found = row_at p rows (whole p low mine.0 (omega (arith, mine.1)) mine.2) in
              let same : found.0 ≡ post_of p r = All-contains (IsRowOf log) rows found.0 of_log found.1 r (ap (λ q. slice_get log (q - 1)) found.2 ∙ is) ∙ ap (λ q. post_of q r) found.2 in
              rows_in_has i.rows kept (post_of p r) (passed_has here rows (post_of p r) (subst (Contains rows) same found.1) home)
        ];
      }

-- what is covered is in the log, so a longer log changes nothing
pub indexed_more : (log more : List Record) (i : IndexerState) → ((p : ℕ) → 1 ≤ p → IsBelowMark i.pair p → p ≤ length log) → IsIndexed log i → IsIndexed (log ++ more) i
indexed_more log more i within h = record {
  size = h.size;
  rows = All-weaker (λ (post : Post). (1 ≤ post.place.lid) × IsBelowMark i.pair post.place.lid × IsRowOf log post) (λ (post : Post). (1 ≤ post.place.lid) × IsBelowMark i.pair post.place.lid × IsRowOf (log ++ more) post)
      (λ post has. (has.0, has.1, λ x is. has.2 x (sym (get_before (post.place.lid - 1) (omega (arith, has.0, within post.place.lid has.0 has.1))) ∙ is))) i.rows h.rows;
  homes = h.homes;
  rising = h.rising;
  complete = λ p x first covered is here. h.complete p x first covered (sym (get_before (p - 1) (omega (arith, within p first covered))) ∙ is) here;
}
  where
    get_before : (k : ℕ) → k < length log → slice_get (log ++ more) k ≡ slice_get log k
    get_before k low = let some = slice_get_some log k low in slice_get-append_left log more k some.0 some.1 ∙ sym some.1
