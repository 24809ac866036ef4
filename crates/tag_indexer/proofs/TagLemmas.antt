-- What is listed under a tag, once the list of one tag is another.
use Rattle.std.proofs.Common.{◌≡◌, ℕ, ◌<◌, ◌≤◌, refl, true, cond, List, [], ◌∷◌, length, take, get_or, Some, None, ap, sym, ◌∙◌, subst, inl, inr, arith}
use Rattle.std.specs.List.{All, Contains, AllWithin}
use Rattle.std.specs.Option.{unwrap_or}
use Rattle.std.specs.Map.{lookup}
use Rattle.std.specs.List.Sorted.{IsNonDecreasingBy}
use Rattle.std.proofs.lemmas.List.{get_or-take, length-take-le}
use Rattle.std.proofs.lemmas.Bool.{cases_lt, cond_both}
use Rattle.std.proofs.lemmas.Slice.Eq.{bytes_eq-Decides}
use Rattle.std.proofs.lemmas.Map.Text.{is_eq-slice_cmp}
use Rattle.tag_indexer.specs.TagIndexes.{is_name, lids_of, IsListed, AreLidsRising, IsTagIndex, ListsAll}

name_is : (tag name : List ℕ) → is_name tag name ≡ true → tag ≡ name
name_is tag name is = (bytes_eq-Decides tag name).0 (sym (is_eq-slice_cmp tag name) ∙ is)

pub name_itself : (tag : List ℕ) → is_name tag tag ≡ true
name_itself tag = is_eq-slice_cmp tag tag ∙ (bytes_eq-Decides tag tag).1 refl

-- one tag has another list
abbrev pub IsUpdated : List (List ℕ × List ℕ) → List (List ℕ × List ℕ) → List ℕ → List ℕ → Type 0
IsUpdated m n tag lids = (q : List ℕ) → lookup (is_name q) n ≡ cond (is_name tag q) (Some lids) (lookup (is_name q) m)

pub updated_rises : (m n : List (List ℕ × List ℕ)) (tag lids : List ℕ) → IsUpdated m n tag lids → IsTagIndex m → AreLidsRising lids → IsTagIndex n
updated_rises m n tag lids is rise new = λ q. subst (λ o. AreLidsRising (unwrap_or o [])) (sym (is q))
    (cond_both (is_name tag q) (Some lids) (lookup (is_name q) m) (λ o. AreLidsRising (unwrap_or o [])) (λ _. new) (λ _. rise q))

pub updated_keeps : (m n : List (List ℕ × List ℕ)) (tag lids : List ℕ) → IsUpdated m n tag lids → ((p : ℕ) → IsListed m tag p → Contains lids p) → ListsAll m n
updated_keeps m n tag lids is keeps = λ q p has. subst (λ o. Contains (unwrap_or o []) p) (sym (is q))
    (cond_both (is_name tag q) (Some lids) (lookup (is_name q) m) (λ o. Contains (unwrap_or o []) p)
    (λ same. keeps p (subst (λ t. IsListed m t p) (sym (name_is tag q same)) has)) (λ _. has))

-- the list that a tag has
pub listed_as : (m : List (List ℕ × List ℕ)) (tag lids : List ℕ) → Some lids ≡ lookup (is_name tag) m → lids_of m tag ≡ lids
listed_as m tag lids is = ap (λ o. unwrap_or o []) (sym is)

pub none_listed : (m : List (List ℕ × List ℕ)) (tag : List ℕ) → None ≡ lookup (is_name tag) m → lids_of m tag ≡ []
none_listed m tag is = ap (λ o. unwrap_or o []) (sym is)

pub lids_sorted : (lids : List ℕ) → AreLidsRising lids → IsNonDecreasingBy (λ (p : ℕ). p) lids
lids_sorted lids rise = λ i j d le within. elim (cases_lt i j) [
  | inl before ↦ omega (arith, rise i j d before within)
  | inr after ↦ let same : i ≡ j = omega arith in omega (arith, ap (λ k. get_or lids k d) same)
]

pub front_rises : (lids : List ℕ) (n : ℕ) → n ≤ length lids → AreLidsRising lids → AreLidsRising (take n lids)
front_rises lids n few rise = λ i j d before within.
    (let most : j < n = omega (arith, within, length-take-le n lids few) in
    omega (arith, get_or-take n lids i d (omega arith), get_or-take n lids j d most, rise i j d before (omega arith)))

pub front_below : (lids : List ℕ) (n s : ℕ) → n ≤ length lids → AllWithin (λ p. p ≤ s) lids 0 n → All (λ p. p ≤ s) (take n lids)
front_below lids n s few low = λ k d within.
    (let most : k < n = omega (arith, within, length-take-le n lids few) in
    omega (arith, get_or-take n lids k d most, low k d (omega arith) most))

pub front_whole : (lids : List ℕ) (n s p : ℕ) → n ≤ length lids → AllWithin (λ q. s < q) lids n (length lids) → p ≤ s → Contains lids p → Contains (take n lids) p
front_whole lids n s p few high low has = elim (cases_lt has.0 n) [
  | inl before ↦ (has.0, omega (arith, before, length-take-le n lids few), get_or-take n lids has.0 p before ∙ has.2)
  | inr after ↦ absurd (omega (arith, high has.0 p after has.1, has.2))
]

-- the same, where the key is a copy of the tag
pub updated_by : (m o n : List (List ℕ × List ℕ)) (key tag lids : List ℕ) → o ≡ m → key ≡ tag → IsUpdated o n key lids → IsUpdated m n tag lids
updated_by m o n key tag lids same copied is = subst (λ x. IsUpdated x n tag lids) same (subst (λ t. IsUpdated o n t lids) copied is)

-- a first position under a tag
pub one_rises : (lids : List ℕ) (p : ℕ) → lids ≡ p ∷ [] → AreLidsRising lids
one_rises lids p is = subst AreLidsRising (sym is) (λ i j d before within. absurd (omega arith))

pub none_kept : (m : List (List ℕ × List ℕ)) (tag lids : List ℕ) → None ≡ lookup (is_name tag) m → (p : ℕ) → IsListed m tag p → Contains lids p
none_kept m tag lids is p has = absurd (omega (arith, has.1, ap (λ xs. length xs) (none_listed m tag is)))
