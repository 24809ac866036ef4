-- Positions that rise: where one is put in.
use Rattle.std.proofs.Common.{ℕ, zero, suc, ◌<◌, ◌≤◌, List, [], ◌∷◌, length, get_or, take, drop, arith}
use Rattle.std.specs.List.{All, Contains, insert}
use Rattle.std.proofs.lemmas.List.Elements.{All-cons, All-append, All-take, All-drop, All-from_get_or}
use Rattle.std.proofs.lemmas.List.Kept.{AllPairs-cons}
use Rattle.std.proofs.lemmas.List.Sorted.{IsPermutation-insert, Contains-permutation}
use Rattle.causal_deps.proofs.Lists.{Contains-here, Contains-there}
use Rattle.tag_indexer.specs.TagIndexes.{AreLidsRising}

All-insert : {X : Type 0} (P : X → Type 0) (xs : List X) (i : ℕ) (x : X) → All P xs → P x → All P (insert xs i x)
All-insert P xs i x all here = All-append P (take i xs) (x ∷ drop i xs) (All-take P i xs all) (All-cons P x (drop i xs) here (All-drop P i xs all))

pub lids_parts : (x : ℕ) (xs : List ℕ) → AreLidsRising (x ∷ xs) → All (λ y. x < y) xs × AreLidsRising xs
lids_parts x xs rise = (λ k d within. rise 0 (suc k) d (omega arith) (omega arith), λ i j d before within. rise (suc i) (suc j) d (omega arith) (omega arith))

pub insert_rises : (xs : List ℕ) (i x : ℕ) → AreLidsRising xs → i ≤ length xs → ((k : ℕ) → k < i → get_or xs k 0 < x) → ((k : ℕ) → i ≤ k → k < length xs → x < get_or xs k 0) → AreLidsRising (insert xs i x)
insert_rises xs zero x rise within below above = AllPairs-cons (λ (a b : ℕ). a < b) x xs (All-from_get_or (λ (y : ℕ). x < y) xs 0 (λ k low. above k (omega arith) low)) rise
insert_rises [] (suc i) x rise within below above = absurd (omega arith)
insert_rises (y ∷ ys) (suc i) x rise within below above =
    let parts = lids_parts y ys rise in
    AllPairs-cons (λ (a b : ℕ). a < b) y (insert ys i x) (All-insert (λ (z : ℕ). y < z) ys i x parts.0 (below 0 (omega arith)))
    (insert_rises ys i x parts.1 (omega arith) (λ k low. below (suc k) (omega arith)) (λ k from low. above (suc k) (omega arith) (omega arith)))

pub insert_keeps : (xs : List ℕ) (i x p : ℕ) → Contains xs p → Contains (insert xs i x) p
insert_keeps xs i x p has = Contains-permutation (x ∷ xs) (insert xs i x) p (IsPermutation-insert xs i x) (Contains-there x xs p has)

pub insert_has : (xs : List ℕ) (i x : ℕ) → Contains (insert xs i x) x
insert_has xs i x = Contains-permutation (x ∷ xs) (insert xs i x) x (IsPermutation-insert xs i x) (Contains-here x xs)
