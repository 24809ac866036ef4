-- Rows in order: where one is put in, and which one stands at a position.
use Rattle.std.proofs.Common.{◌≡◌, ◌≢◌, ℕ, zero, suc, ◌<◌, ◌≤◌, true, false, leb, ltb, eqb, List, [], ◌∷◌, length, get_or, refl, ap, sym, ◌∙◌, subst, Some, None, inl, inr, arith}
use Rattle.std.specs.List.{AllWithin, Contains, insert, find}
use Rattle.std.proofs.lemmas.Bool.{cases_lt, cond-true, cond-false, eq-eqb, ne_eqb, lt-ltb, le-ltb, leb-true, leb-false}
use Rattle.std.proofs.lemmas.List.Elements.{All-contains}
use Rattle.std.proofs.lemmas.List.Sorted.{IsNonDecreasingBy-insert}
use Rattle.causal_deps.proofs.Lists.{Contains-cons}
use Rattle.tag_indexer.specs.declared.post.Post.{Post}
use Rattle.tag_indexer.specs.Rows.{row_in}
use Rattle.tag_indexer.specs.Indexers.{AreSorted}
use Rattle.tag_indexer.proofs.RowLemmas.{AreRows, rows_parts}

pub rows_sorted : (rows : List Post) → AreRows rows → AreSorted rows
rows_sorted rows rise = λ i j d le within. elim (cases_lt i j) [
  | inl before ↦ omega (arith, rise i j d before within)
  | inr after ↦ let same : i ≡ j = omega arith in omega (arith, ap (λ k. (get_or rows k d).place.lid) same)
]

-- the place found is the place by position
pub insert_is_row_in : (rows : List Post) (i : ℕ) (x : Post) → i ≤ length rows → AllWithin (λ (y : Post). y.place.lid ≤ x.place.lid) rows 0 i → AllWithin (λ (y : Post). x.place.lid < y.place.lid) rows i (length rows) → insert rows i x ≡ row_in x rows
insert_is_row_in [] zero x within below above = refl
insert_is_row_in [] (suc i) x within below above = absurd (omega arith)
insert_is_row_in (y ∷ ys) zero x within below above =
    sym (cond-true (ltb x.place.lid y.place.lid) (x ∷ y ∷ ys) (y ∷ row_in x ys) (lt-ltb x.place.lid y.place.lid (above 0 x (omega arith) (omega arith))))
insert_is_row_in (y ∷ ys) (suc i) x within below above =
    ap (λ zs. y ∷ zs) (insert_is_row_in ys i x (omega arith) (λ k d from lt. below (suc k) d (omega arith) (omega arith)) (λ k d from lt. above (suc k) d (omega arith) (omega arith)))
    ∙ sym (cond-false (ltb x.place.lid y.place.lid) (x ∷ y ∷ ys) (y ∷ row_in x ys) (le-ltb x.place.lid y.place.lid (below 0 x (omega arith) (omega arith))))

-- the first row that is not below p is at p
pub find_here : (rows : List Post) (i p : ℕ) (x : Post) → i < length rows → AllWithin (λ (y : Post). y.place.lid < p) rows 0 i → x ≡ get_or rows i x → x.place.lid ≡ p → find (λ post. eqb post.place.lid p) rows ≡ Some x
find_here [] i p x within below is at = absurd (omega arith)
find_here (y ∷ ys) zero p x within below is at = cond-true (eqb y.place.lid p) (Some y) (find (λ post. eqb post.place.lid p) ys) (eq-eqb y.place.lid p (ap (λ (z : Post). z.place.lid) (sym is) ∙ at)) ∙ ap Some (sym is)
find_here (y ∷ ys) (suc i) p x within below is at =
    let low : y.place.lid < p = below 0 x (omega arith) (omega arith) in
    cond-false (eqb y.place.lid p) (Some y) (find (λ post. eqb post.place.lid p) ys) (ne_eqb y.place.lid p (λ same. absurd (omega arith)))
    ∙ find_here ys i p x (omega arith) (λ k d from lt. below (suc k) d (omega arith) (omega arith)) is at

-- the first row that is not below p is above it, or there is none
pub find_nowhere : (rows : List Post) (i p : ℕ) → i ≤ length rows → AllWithin (λ (y : Post). y.place.lid < p) rows 0 i → AllWithin (λ (y : Post). p < y.place.lid) rows i (length rows) → find (λ post. eqb post.place.lid p) rows ≡ None
find_nowhere [] i p within below above = refl
find_nowhere (y ∷ ys) zero p within below above =
    let high : p < y.place.lid = above 0 y (omega arith) (omega arith) in
    cond-false (eqb y.place.lid p) (Some y) (find (λ post. eqb post.place.lid p) ys) (ne_eqb y.place.lid p (λ same. absurd (omega arith)))
    ∙ find_nowhere ys zero p (omega arith) (λ k d from lt. absurd (omega arith)) (λ k d from lt. above (suc k) d (omega arith) (omega arith))
find_nowhere (y ∷ ys) (suc i) p within below above =
    let low : y.place.lid < p = below 0 y (omega arith) (omega arith) in
    cond-false (eqb y.place.lid p) (Some y) (find (λ post. eqb post.place.lid p) ys) (ne_eqb y.place.lid p (λ same. absurd (omega arith)))
    ∙ find_nowhere ys i p (omega arith) (λ k d from lt. below (suc k) d (omega arith) (omega arith)) (λ k d from lt. above (suc k) d (omega arith) (omega arith))

-- the rows from i on are above p, where row i is not at it and none of them is below it
pub all_above : (rows : List Post) (i p : ℕ) → AreSorted rows → AllWithin (λ (y : Post). p ≤ y.place.lid) rows i (length rows) → (i < length rows → (d : Post) → (get_or rows i d).place.lid ≢ p) → AllWithin (λ (y : Post). p < y.place.lid) rows i (length rows)
all_above rows i p sorted from other = λ k d at within. omega (arith, sorted i k d at within, from i d (omega arith) (omega arith), other (omega arith) d)

-- a row that is put behind those up to its position
pub put_in_order : (rows xs new : List Post) (i : ℕ) (x : Post) → xs ≡ rows → new ≡ insert rows i x → AreSorted rows → i ≤ length xs → AllWithin (λ (y : Post). leb y.place.lid x.place.lid ≡ true) xs 0 i → AllWithin (λ (y : Post). leb y.place.lid x.place.lid ≡ false) xs i (length xs)
    → (new ≡ row_in x rows) × AreSorted new
put_in_order rows xs new i x same is sorted few below above =
    let low : AllWithin (λ (y : Post). y.place.lid ≤ x.place.lid) rows 0 i = subst (λ ys. AllWithin (λ (y : Post). y.place.lid ≤ x.place.lid) ys 0 i) same (λ k d from lt. leb-true (get_or xs k d).place.lid x.place.lid (below k d from lt)) in
    let high : AllWithin (λ (y : Post). x.place.lid < y.place.lid) rows i (length rows) = subst (λ ys. AllWithin (λ (y : Post). x.place.lid < y.place.lid) ys i (length ys)) same (λ k d from lt. leb-false (get_or xs k d).place.lid x.place.lid (above k d from lt)) in
    let within : i ≤ length rows = omega (arith, few, ap (λ ys. length ys) same) in (
      is ∙ insert_is_row_in rows i x within low high,
      subst AreSorted (sym is) (IsNonDecreasingBy-insert (λ (y : Post). y.place.lid) rows i x sorted within (λ k d lt. low k d (omega arith) lt) (λ k d from lt. (let h = high k d from lt in omega (arith, h)))),
    )

-- of rows that rise, the one at a position is the one that stands there
pub find_row : (rows : List Post) (x : Post) → AreRows rows → Contains rows x → find (λ post. eqb post.place.lid x.place.lid) rows ≡ Some x
find_row [] x rise has = absurd (omega (arith, has.1))
find_row (y ∷ ys) x rise has = elim (Contains-cons y ys x has) [
  | inl is ↦ cond-true (eqb y.place.lid x.place.lid) (Some y) (find (λ post. eqb post.place.lid x.place.lid) ys) (eq-eqb y.place.lid x.place.lid (ap (λ (z : Post). z.place.lid) is)) ∙ ap Some is
  | inr later ↦
      let parts = rows_parts y ys rise in
      let above : y.place.lid < x.place.lid = All-contains (λ (z : Post). y.place.lid < z.place.lid) ys x parts.0 later in
      cond-false (eqb y.place.lid x.place.lid) (Some y) (find (λ post. eqb post.place.lid x.place.lid) ys) (ne_eqb y.place.lid x.place.lid (λ same. absurd (omega arith)))
      ∙ find_row ys x parts.1 later
]
