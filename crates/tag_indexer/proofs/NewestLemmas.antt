-- The newest update that rows have of a key, and that the log has; and what it tells.
use Rattle.std.proofs.Common.{◌≡◌, ◌≢◌, ◌↔◌, ◌⊎◌, ℕ, zero, suc, ◌-◌, ◌<◌, ◌≤◌, max, Bool, true, false, cond, leb, ltb, eqb, ◌&&◌, List, [], ◌∷◌, ◌++◌, length, refl, ap, sym, ◌∙◌, subst, inl, inr, arith, Option, Some, None, slice_get}
use Rattle.std.specs.List.{All, Contains, fold, list_any}
use Rattle.std.specs.Option.{option_map_or}
use Rattle.std.specs.Str.{bytes_eq}
use Rattle.std.proofs.lemmas.List.Elements.{All-nil, All-cons, All-contains, All-weaker}
use Rattle.std.proofs.lemmas.Option.{same_Some}
use Rattle.std.proofs.lemmas.Slice.Eq.{bytes_eq-Decides}
use Rattle.std.proofs.lemmas.Bool.{cases_eq, cases_lt, cond_both, cond-true, cond-false, and_parts, and_from, or_cases, or_left, or_right, leb-true, le-leb, eq-eqb, ne_eqb, true≢false, false≢true, le-ltb}
use Rattle.causal_deps.proofs.Lists.{Contains-here, Contains-there, slice_get_some}
use Rattle.causal_deps.specs.declared.answers.Newest.{Newest}
use Rattle.causal_deps.specs.declared.answers.Newest.TheVariants.{Behind, Found, Deleted, Absent}
use Rattle.causal_deps.specs.declared.record.Kind.{Kind}
use Rattle.causal_deps.specs.declared.record.Kind.TheVariants.{Append, Put, Del}
use Rattle.causal_deps.specs.declared.record.Place.{Place}
use Rattle.causal_deps.specs.declared.record.Record.{Record}
use Rattle.causal_deps.specs.Kinds.{is_update}
use Rattle.abstract_log.specs.Answers.{newest, passes, is_update_of, has_tag, place_at}
use Rattle.abstract_log.specs.Updates.{told_by, told_place, told_record}
use Rattle.flstore_rounds.specs.Heads.{Pair, head, IsBelowMark}
use Rattle.flstore_rounds.proofs.HeadLemmas.{head_below}
use Rattle.tag_indexer.specs.declared.post.Post.{Post}
use Rattle.tag_indexer.specs.Rows.{has_home, home, is_row_of, is_tagged, newest_row, post_of, told_row}
use Rattle.tag_indexer.specs.Indexers.{AreInOrder, AreKept, IndexerState, newest_lid, newest_position}
use Rattle.tag_indexer.specs.Indexed.{IsIndexed, IsRowOf}
use Rattle.tag_indexer.proofs.RowLemmas.{AreRows}
use Rattle.tag_indexer.proofs.FindLemmas.{find_nowhere, find_row}

pub list_any-weaker : {X : Type 0} (p q : X → Bool) (xs : List X) → ((x : X) → p x ≡ true → q x ≡ true) → list_any p xs ≡ true → list_any q xs ≡ true
list_any-weaker p q [] then some = some
list_any-weaker p q (x ∷ xs) then some = elim (or_cases (p x) (list_any p xs) some) [
  | inl here ↦ or_left (q x) (list_any q xs) (then x here)
  | inr later ↦ or_right (q x) (list_any q xs) (list_any-weaker p q xs then later)
]

-- a record with a tag at home here is one to be kept here
pub tag_at_home : (n i : ℕ) (tag : List ℕ) (tags : List (List ℕ)) → home tag n ≡ i → list_any (λ t. bytes_eq t tag) tags ≡ true → has_home n i tags ≡ true
tag_at_home n i tag tags here tagged = list_any-weaker (λ t. bytes_eq t tag) (λ t. eqb (home t n) i) tags
    (λ t same. eq-eqb (home t n) i (ap (λ y. home y n) ((bytes_eq-Decides t tag).0 same) ∙ here)) tagged

-- the row is an update of the key, up to s
abbrev pub is_update_row : List ℕ → ℕ → Post → Bool
is_update_row key s post = is_update post.kind && is_row_of key s post

abbrev pub newest_from : ℕ → List Post → List ℕ → ℕ → ℕ
newest_from best rows key s = fold (λ b post. cond (is_update_row key s post) (max b post.place.lid) b) best rows

newest_from-up : (best : ℕ) (rows : List Post) (key : List ℕ) (s : ℕ) → best ≤ newest_from best rows key s
newest_from-up best [] key s = omega arith
newest_from-up best (r ∷ rs) key s =
    let next : ℕ = cond (is_update_row key s r) (max best r.place.lid) best in
    let more : best ≤ next = cond_both (is_update_row key s r) (max best r.place.lid) best (λ n. best ≤ n) (λ _. omega arith) (λ _. omega arith) in
    omega (arith, newest_from-up next rs key s)

pub newest_from-upper : (best : ℕ) (rows : List Post) (key : List ℕ) (s : ℕ) → All (λ post. is_update_row key s post ≡ true → post.place.lid ≤ newest_from best rows key s) rows
newest_from-upper best [] key s = All-nil (λ (post : Post). is_update_row key s post ≡ true → post.place.lid ≤ best)
newest_from-upper best (r ∷ rs) key s =
    let next : ℕ = cond (is_update_row key s r) (max best r.place.lid) best in
    All-cons (λ (post : Post). is_update_row key s post ≡ true → post.place.lid ≤ newest_from next rs key s) r rs
    (λ is. let at : next ≡ max best r.place.lid = cond-true (is_update_row key s r) (max best r.place.lid) best is in omega (arith, newest_from-up next rs key s)) (newest_from-upper next rs key s)

-- the newest is the one begun with, or that of a row
pub newest_from-reached : (best : ℕ) (rows : List Post) (key : List ℕ) (s : ℕ) → (newest_from best rows key s ≡ best) ⊎ ((post : Post) × Contains rows post × (is_update_row key s post ≡ true) × (post.place.lid ≡ newest_from best rows key s))
newest_from-reached best [] key s = inl refl
newest_from-reached best (r ∷ rs) key s =
    let next : ℕ = cond (is_update_row key s r) (max best r.place.lid) best in
    elim (newest_from-reached next rs key s) [
      | inr later ↦ inr (later.0, Contains-there r rs later.0 later.1, later.2, later.3)
      | inl same ↦ by_test (is_update_row key s r) refl same
    ]
  where
    by_test : (b : Bool) → is_update_row key s r ≡ b → newest_from (cond b (max best r.place.lid) best) rs key s ≡ cond b (max best r.place.lid) best
        → (newest_from (cond b (max best r.place.lid) best) rs key s ≡ best) ⊎ ((post : Post) × Contains (r ∷ rs) post × (is_update_row key s post ≡ true) × (post.place.lid ≡ newest_from (cond b (max best r.place.lid) best) rs key s))
    by_test false is same = inl same
    by_test true is same = elim (cases_lt best r.place.lid) [
      | inl above ↦ inr (r, Contains-here r rs, is, omega (arith, same))
      | inr below ↦ inl (omega (arith, same))
    ]

-- the newest update of a key up to s, at p, or none where p is 0
pub record IsNewest (log : List Record) (key : List ℕ) (s p : ℕ) : Type 0 where
  pub within : p ≤ s
  pub update : 1 ≤ p → (r : Record) × (slice_get log (p - 1) ≡ Some r) × (is_update_of key r ≡ true)
  pub last : (q : ℕ) (r : Record) → 1 ≤ q → q ≤ s → slice_get log (q - 1) ≡ Some r → is_update_of key r ≡ true → q ≤ p

-- what the rows say is the newest is so, up to what is covered
pub newest_row_is : (log : List Record) (i : IndexerState) (key : List ℕ) (s : ℕ) → IsIndexed log i → home key i.indexers ≡ i.number → s ≤ length log → s ≤ head i.pair → IsNewest log key s (newest_row i.rows key s)
newest_row_is log i key s indexed here within covered =
    let IsRow : Post → Type 0 = λ y. (1 ≤ y.place.lid) × IsBelowMark i.pair y.place.lid × IsRowOf log y in
    let from_row = λ (post : Post) (has : Contains i.rows post) (is : is_update_row key s post ≡ true).
    (let row : IsRow post = All-contains IsRow i.rows post indexed.rows has in
    let tests = and_parts (is_update post.kind) (is_row_of key s post) is in
    let inner = and_parts (leb post.place.lid s) (is_tagged key post) tests.1 in
    let low : post.place.lid ≤ s = leb-true post.place.lid s inner.0 in
    let there : post.place.lid - 1 < length log = omega (arith, row.0) in
    let some = slice_get_some log (post.place.lid - 1) there in
    let r : Record = some.0 in
    let stands : slice_get log (post.place.lid - 1) ≡ Some r = some.1 in
    let same : post ≡ post_of post.place.lid r = row.2 r stands in
    let update : is_update r.kind ≡ true = ap (λ (y : Post). is_update y.kind) (sym same) ∙ tests.0 in
    let tag : has_tag key r ≡ true = ap (is_tagged key) (sym same) ∙ inner.1 in
    let out : (post.place.lid ≤ s) × ((y : Record) × (slice_get log (post.place.lid - 1) ≡ Some y) × (is_update_of key y ≡ true)) = (low, (r, stands, and_from (is_update r.kind) (has_tag key r) update tag)) in out) in
    record {
      within = elim (newest_from-reached 0 i.rows key s) [
        | inl none ↦ omega (arith, none)
        | inr at ↦ omega (arith, (from_row at.0 at.1 at.2).0, at.3)
      ];
      update = λ some. elim (newest_from-reached 0 i.rows key s) [
        | inl none ↦ absurd (omega (arith, none))
        | inr at ↦ let found = (from_row at.0 at.1 at.2).1 in (found.0, ap (λ q. slice_get log (q - 1)) (sym at.3) ∙ found.1, found.2)
      ];
      last = λ q r first low stands is.
          let cover : IsBelowMark i.pair q = head_below i.pair q first (omega arith) in
          let parts = and_parts (is_update r.kind) (has_tag key r) is in
          let has : Contains i.rows (post_of q r) = indexed.complete q r first cover stands (tag_at_home i.indexers i.number key r.tags here parts.1) in
          All-contains (λ (y : Post). is_update_row key s y ≡ true → y.place.lid ≤ newest_from 0 i.rows key s) i.rows (post_of q r) (newest_from-upper 0 i.rows key s) has
          (and_from (is_update r.kind) (leb q s && list_any (λ t. bytes_eq t key) r.tags) parts.0 (and_from (leb q s) (list_any (λ t. bytes_eq t key) r.tags) (le-leb q s low) parts.1));
    }

newest_lower : (log : List Record) (key : List ℕ) (s p : ℕ) → IsNewest log key (suc s) p → ((r : Record) → slice_get log s ≡ Some r → is_update_of key r ≡ false) → IsNewest log key s p
newest_lower log key s p h none = record {
  within = elim (cases_eq p (suc s)) [
    | inr other ↦ omega (arith, h.within)
    | inl same ↦ let at = h.update (omega arith) in absurd (true≢false (sym at.2 ∙ none at.0 (ap (slice_get log) (omega arith) ∙ at.1)))
  ];
  update = h.update;
  last = λ q r first low. h.last q r first (omega arith);
}

newest_step : (log : List Record) (key : List ℕ) (s p : ℕ) → IsNewest log key (suc s) p → (o : Option Record) → slice_get log s ≡ o → (IsNewest log key s p → newest log key s ≡ cond (eqb p 0) None (Some p))
    → cond (passes (is_update_of key) o) (Some (suc s)) (newest log key s) ≡ cond (eqb p 0) None (Some p)
newest_step log key s p h None is ih = ih (newest_lower log key s p h (λ r bad. absurd (cc)))
newest_step log key s p h (Some r) is ih = cond_both (is_update_of key r) (Some (suc s)) (newest log key s) (λ o. o ≡ cond (eqb p 0) None (Some p))
    (λ is_one. let at : p ≡ suc s = omega (arith, h.last (suc s) r (omega arith) (omega arith) (ap (slice_get log) (omega arith) ∙ is) is_one, h.within) in
    ap Some (sym at) ∙ sym (cond-false (eqb p 0) None (Some p) (ne_eqb p 0 (λ z. (let bad : suc s ≡ 0 = sym at ∙ z in omega arith)))))
    (λ no_update. ih (newest_lower log key s p h (λ y same. ap (is_update_of key) (same_Some y r (sym same ∙ is)) ∙ no_update)))

-- the log's newest update is at that place
pub newest_at : (log : List Record) (key : List ℕ) (s p : ℕ) → IsNewest log key s p → newest log key s ≡ cond (eqb p 0) None (Some p)
newest_at log key zero p h = sym (cond-true (eqb p 0) None (Some p) (eq-eqb p 0 (omega (arith, h.within))))
newest_at log key (suc s) p h = newest_step log key s p h (slice_get log s) refl (newest_at log key s p)

-- one row more
pub newest_row-push : (rows : List Post) (x : Post) (key : List ℕ) (s : ℕ) → newest_row (rows ++ x ∷ []) key s ≡ cond (is_update_row key s x) (max (newest_row rows key s) x.place.lid) (newest_row rows key s)
newest_row-push rows x key s = from rows 0
  where
    from : (ys : List Post) (best : ℕ) → newest_from best (ys ++ x ∷ []) key s ≡ cond (is_update_row key s x) (max (newest_from best ys key s) x.place.lid) (newest_from best ys key s)
    from [] best = refl
    from (y ∷ ys) best = from ys (cond (is_update_row key s y) (max best y.place.lid) best)

-- of rows from position 1 on, none is at 0
pub told_first : (rows : List Post) → All (λ post. 1 ≤ post.place.lid) rows → told_row rows 0 ≡ Absent
told_first rows first = ap (λ o. option_map_or (λ (post : Post). told_by post.kind post.place) o Absent) (find_nowhere rows 0 0 (omega arith) (λ k d from lt. absurd (omega arith)) (λ k d from lt. first k d lt))

-- of rows that rise, what is told at a position is what the row there tells
pub told_of : (rows : List Post) (post : Post) → AreRows rows → Contains rows post → told_row rows post.place.lid ≡ told_by post.kind post.place
told_of rows post rise has = ap (λ o. option_map_or (λ (y : Post). told_by y.kind y.place) o Absent) (find_row rows post rise has)

-- what is told at the newest update of a key: nothing where there is none, else what its row tells
pub told_cases : (rows : List Post) (key : List ℕ) (s : ℕ) → AreInOrder rows → (newest_row rows key s ≡ 0) × (told_row rows (newest_row rows key s) ≡ Absent)
    ⊎ (post : Post) × Contains rows post × (is_update_row key s post ≡ true) × (post.place.lid ≡ newest_row rows key s) × (told_row rows (newest_row rows key s) ≡ told_by post.kind post.place)
told_cases rows key s h = elim (newest_from-reached 0 rows key s) [
  | inl none ↦ inl (none, ap (told_row rows) none ∙ told_first rows h.first)
  | inr at ↦ inr (at.0, at.1, at.2, at.3, ap (told_row rows) (sym at.3) ∙ told_of rows at.0 h.rising at.1)
]

-- What is told, where the newest update stands at n, or there is none and n is 0: nothing exactly where there is none, and a position or a
-- place only with n.
pub record IsToldAt (n : ℕ) (told : Newest) : Type 0 where
  pub absent : (told ≡ Absent) ↔ (n ≡ 0)
  pub found : (p : ℕ) → told ≡ Found p → p ≡ n
  pub deleted : (place : Place) → told ≡ Deleted place → place.lid ≡ n
  pub reached : (covered : ℕ) → told ≢ Behind covered
  pub position : newest_lid told ≡ cond (eqb n 0) None (Some n)

absent_at_0 : IsToldAt 0 Absent
absent_at_0 = record {
  absent = (λ _. refl, λ _. refl);
  found = λ p bad. absurd (cc);
  deleted = λ place bad. absurd (cc);
  reached = λ covered bad. absurd (cc);
  position = refl;
}

update_told_at : (kind : Kind) (place : Place) → is_update kind ≡ true → 1 ≤ place.lid → IsToldAt place.lid (told_by kind place)
update_told_at Append place bad first = absurd (false≢true bad)
update_told_at Put place is first = record {
  absent = (λ bad. absurd (cc), λ none. absurd (omega (arith, none)));
  found = λ p same. cc;
  deleted = λ other bad. absurd (cc);
  reached = λ covered bad. absurd (cc);
  position = sym (cond-false (eqb place.lid 0) None (Some place.lid) (ne_eqb place.lid 0 (λ none. absurd (omega (arith, none)))));
}
update_told_at Del place is first = record {
  absent = (λ bad. absurd (cc), λ none. absurd (omega (arith, none)));
  found = λ p bad. absurd (cc);
  deleted = λ other same. (let one : place ≡ other = cc in sym (ap (λ (x : Place). x.lid) one));
  reached = λ covered bad. absurd (cc);
  position = sym (cond-false (eqb place.lid 0) None (Some place.lid) (ne_eqb place.lid 0 (λ none. absurd (omega (arith, none)))));
}

-- the position that is told is that of the newest update
pub told_at : (rows : List Post) (key : List ℕ) (s : ℕ) → AreInOrder rows → IsToldAt (newest_row rows key s) (told_row rows (newest_row rows key s))
told_at rows key s h = elim (told_cases rows key s h) [
  | inl none ↦ subst (IsToldAt (newest_row rows key s)) (sym none.1) (subst (λ n. IsToldAt n Absent) (sym none.0) absent_at_0)
  | inr at ↦
      let tests = and_parts (is_update at.0.kind) (is_row_of key s at.0) at.2 in
      let its = update_told_at at.0.kind at.0.place tests.0 (All-contains (λ (y : Post). 1 ≤ y.place.lid) rows at.0 h.first at.1) in
      subst (IsToldAt (newest_row rows key s)) (sym at.4) (subst (λ n. IsToldAt n (told_by at.0.kind at.0.place)) at.3 its)
]

-- the rows that an indexer keeps are in order
pub kept_order : (number indexers : ℕ) (v : Pair) (rows : List Post) → AreKept number indexers v rows → AreInOrder rows
kept_order number indexers v rows h = record {
  rising = h.rising;
  first = All-weaker (λ (post : Post). (1 ≤ post.place.lid) × IsBelowMark v post.place.lid) (λ post. 1 ≤ post.place.lid) (λ post has. has.0) rows h.marked;
}

-- what an indexer tells where it covers the position, and of which position
pub told_position : (i : IndexerState) (rows : List Post) (key : List ℕ) (s : ℕ) (told : Newest) → rows ≡ i.rows → AreInOrder rows → s ≤ head i.pair → told ≡ told_row rows (newest_row rows key s) → newest_lid told ≡ newest_position i key s
told_position i rows key s told same order covered is =
    let n : ℕ = newest_row i.rows key s in
    ap newest_lid is ∙ (told_at rows key s order).position ∙ ap (λ xs. cond (eqb (newest_row xs key s) 0) None (Some (newest_row xs key s))) same
    ∙ sym (cond-false (ltb (head i.pair) s) None (cond (eqb n 0) None (Some n)) (le-ltb (head i.pair) s covered))

-- the rows that an indexer has of a log are in order
pub indexed_order : (log : List Record) (i : IndexerState) → IsIndexed log i → AreInOrder i.rows
indexed_order log i h = record {
  rising = h.rising;
  first = All-weaker (λ (post : Post). (1 ≤ post.place.lid) × IsBelowMark i.pair post.place.lid × IsRowOf log post) (λ post. 1 ≤ post.place.lid) (λ post has. has.0) i.rows h.rows;
}

-- what the log tells of the record at a position
told_there : (log : List Record) (p : ℕ) (r : Record) → 1 ≤ p → slice_get log (p - 1) ≡ Some r → told_place log (Some p) ≡ told_by r.kind (place_at p r)
told_there log zero r first stands = absurd (omega arith)
told_there log (suc p) r first stands = ap (told_record (suc p)) (ap (slice_get log) (omega arith) ∙ stands)

-- what is told at the newest update of a key is what the log tells, up to what is covered
pub told_row_is : (log : List Record) (i : IndexerState) (key : List ℕ) (s : ℕ) → IsIndexed log i → home key i.indexers ≡ i.number → s ≤ length log → s ≤ head i.pair → told_row i.rows (newest_row i.rows key s) ≡ told_place log (newest log key s)
told_row_is log i key s indexed here within covered =
    let n : ℕ = newest_row i.rows key s in
    let is : IsNewest log key s n = newest_row_is log i key s indexed here within covered in
    elim (told_cases i.rows key s (indexed_order log i indexed)) [
      | inl none ↦ none.1 ∙ sym (ap (told_place log) (newest_at log key s n is ∙ cond-true (eqb n 0) None (Some n) (eq-eqb n 0 none.0)))
      | inr at ↦
          let row = All-contains (λ (y : Post). (1 ≤ y.place.lid) × IsBelowMark i.pair y.place.lid × IsRowOf log y) i.rows at.0 indexed.rows at.1 in
          let first : 1 ≤ n = omega (arith, row.0, at.3) in
          let found = is.update first in
          let same : at.0 ≡ post_of n found.0 = row.2 found.0 (ap (λ q. slice_get log (q - 1)) at.3 ∙ found.1) ∙ ap (λ q. post_of q found.0) at.3 in
          at.4 ∙ ap (λ (y : Post). told_by y.kind y.place) same
          ∙ sym (ap (told_place log) (newest_at log key s n is ∙ cond-false (eqb n 0) None (Some n) (ne_eqb n 0 (λ none. absurd (omega (arith, none))))) ∙ told_there log n found.0 first found.1)
    ]

pub told_in_log : (log : List Record) (i : IndexerState) (rows : List Post) (key : List ℕ) (s : ℕ) (told : Newest) → rows ≡ i.rows → home key i.indexers ≡ i.number → told ≡ told_row rows (newest_row rows key s)
    → IsIndexed log i → s ≤ length log → s ≤ head i.pair → told ≡ told_place log (newest log key s)
told_in_log log i rows key s told same here is indexed within covered = is ∙ ap (λ xs. told_row xs (newest_row xs key s)) same ∙ told_row_is log i key s indexed here within covered
