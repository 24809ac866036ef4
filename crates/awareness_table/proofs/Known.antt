-- The least entry of a column, and what every row has.
use Rattle.std.proofs.Common.{◌≡◌, ℕ, zero, suc, ◌+◌, ◌<◌, ◌≤◌, min, Bool, true, List, [], ◌∷◌, length, refl, ap, sym, ◌∙◌, arith, inl, inr, slice_index}
use Rattle.std.specs.Prelude.{nat_le}
use Rattle.std.specs.Bool.{Decides}
use Rattle.std.proofs.lemmas.Bool.{leb-true, le-leb, cases_lt, and_parts, and_from}
use Rattle.std.proofs.lemmas.Bool.Decides.{same_from_decides}
use Rattle.causal_deps.specs.Counts.{entry_of, greater_rows}
use Rattle.causal_deps.proofs.CountsLemmas.{length-greater_rows}
use Rattle.awareness_table.specs.Awareness.{IsKnownEverywhere, IsLeast, is_known_everywhere}

-- the least entry of column h in the first n rows
pub record IsLeastBelow (n : ℕ) (table : List (List ℕ)) (h least : ℕ) : Type 0 where
  pub below : (k : ℕ) → k < n → least ≤ entry_of table k h
  pub there : (k : ℕ) × (k < n) × (entry_of table k h ≡ least)

pub least_of_one : (table : List (List ℕ)) (h x : ℕ) → x ≡ entry_of table 0 h → IsLeastBelow 1 table h x
least_of_one table h x is = record {
  below = λ k first. let e : k ≡ 0 = omega arith in rw (e, is) (omega arith);
  there = (0, omega arith, sym is);
}

pub least_more : (n : ℕ) (table : List (List ℕ)) (h least x lower : ℕ) → x ≡ entry_of table n h → lower ≡ min least x → IsLeastBelow n table h least → IsLeastBelow (n + 1) table h lower
least_more n table h least x lower is is_lower so = rw is_lower (record {
  below = λ k within. elim (cases_lt k n) [
    | inl before ↦ omega (arith, so.below k before)
    | inr past ↦ let e : k ≡ n = omega arith in rw (e, sym is) (omega arith)
  ];
  there = elim (cases_lt least x) [
    | inl less ↦ (so.there.0, omega (arith, so.there.1), so.there.2 ∙ omega arith)
    | inr higher ↦ (n, omega arith, sym is ∙ omega arith)
  ];
})

pub least_of_all : (n : ℕ) (table : List (List ℕ)) (h least : ℕ) → n ≡ length table → IsLeastBelow n table h least → IsLeast table h least
least_of_all n table h least e so = record {
  below = λ k within. so.below k (omega arith);
  there = (so.there.0, omega (arith, so.there.1), so.there.2);
}

rows_have : (table : List (List ℕ)) (h t : ℕ) → is_known_everywhere table h t ≡ true → (k : ℕ) → k < length table → t ≤ entry_of table k h
rows_have [] h t e k within = omega arith
rows_have (row ∷ table) h t e zero within = leb-true t (slice_index row h) (and_parts (nat_le t (slice_index row h)) (is_known_everywhere table h t) e).0
rows_have (row ∷ table) h t e (suc k) within = rows_have table h t (and_parts (nat_le t (slice_index row h)) (is_known_everywhere table h t) e).1 k (omega arith)

all_have : (table : List (List ℕ)) (h t : ℕ) → ((k : ℕ) → k < length table → t ≤ entry_of table k h) → is_known_everywhere table h t ≡ true
all_have [] h t each = refl
all_have (row ∷ table) h t each =
    and_from (nat_le t (slice_index row h)) (is_known_everywhere table h t)
    (le-leb t (slice_index row h) (each zero (omega arith)))
    (all_have table h t (λ k within. each (suc k) (omega arith)))

pub known_decides : (table : List (List ℕ)) (h t : ℕ) → Decides (is_known_everywhere table h t) (IsKnownEverywhere table h t)
known_decides table h t = (λ e. record { each = rows_have table h t e }, λ all. all_have table h t all.each)

-- what the least entry shows
pub known_by_least : (table : List (List ℕ)) (h t least : ℕ) (r : Bool) → IsLeast table h least → Decides r (t ≤ least) → Decides r (IsKnownEverywhere table h t)
known_by_least table h t least r so d = (
  λ e. record { each = λ k within. omega (arith, d.0 e, so.below k within) },
  λ all. d.1 (omega (arith, all.each so.there.0 so.there.1, so.there.2)),
)

pub known_by_test : (table : List (List ℕ)) (h t least : ℕ) → IsLeast table h least → nat_le t least ≡ is_known_everywhere table h t
known_by_test table h t least so =
    same_from_decides (nat_le t least) (is_known_everywhere table h t) (known_by_least table h t least (nat_le t least) so (leb-true t least, le-leb t least)) (known_decides table h t)

-- a merge keeps the number of rows
pub merged_within : (d : ℕ) (old other new seen : List (List ℕ)) → old ≡ seen → d < length old → length seen ≡ length other → new ≡ greater_rows old other → d < length new
merged_within d old other new seen e within same is = omega (arith, ap length is, length-greater_rows old other (ap length e ∙ same))
