-- Positions looked at from the last one on.
use Rattle.std.proofs.Common.{◌≡◌, ℕ, ◌+◌, ◌-◌, ◌<◌, ◌≤◌, List, [], ◌∷◌, ◌++◌, length, get_or, take, drop, reverse, Option, ap, sym, ◌∙◌, arith}
use Rattle.std.specs.List.{filter_map, cons_option}
use Rattle.std.proofs.lemmas.List.{take_more, length-append, length-reverse, reverse-append, append_assoc}
use Rattle.std.proofs.lemmas.List.Elements.{filter_map-append}
use Rattle.std.proofs.Math.Seq.{drop-append_seam}
use Rattle.abstract_log.specs.Answers.{last_of}

-- one more that gives something, or nothing
pub split_more : {Y : Type 0} (f : ℕ → Option Y) (lids : List ℕ) (at : ℕ) (found : List Y) (y : Option Y) → 0 < at → at ≤ length lids → filter_map f lids ≡ filter_map f (take at lids) ++ reverse found → y ≡ f (get_or lids (at - 1) 0)
    → filter_map f lids ≡ filter_map f (take (at - 1) lids) ++ (cons_option y [] ++ reverse found)
split_more f lids at found y some few split is =
    let one : at ≡ (at - 1) + 1 = omega arith in
    let longer : take at lids ≡ take (at - 1) lids ++ get_or lids (at - 1) 0 ∷ [] = ap (λ n. take n lids) one ∙ take_more lids (at - 1) 0 (omega arith) in
    split ∙ ap (λ xs. filter_map f xs ++ reverse found) longer
    ∙ ap (λ xs. xs ++ reverse found) (filter_map-append f (take (at - 1) lids) (get_or lids (at - 1) 0 ∷ []))
    ∙ append_assoc (filter_map f (take (at - 1) lids)) (cons_option (f (get_or lids (at - 1) 0)) []) (reverse found)
    ∙ ap (λ o. filter_map f (take (at - 1) lids) ++ (cons_option o [] ++ reverse found)) (sym is)

-- one more goes last where the list is reversed
pub found_more : {Y : Type 0} (found : List Y) (y : Y) → reverse (found ++ y ∷ []) ≡ y ∷ reverse found
found_more found y = reverse-append found (y ∷ [])

-- as many as are wanted
pub scanned_enough : {Y : Type 0} (f : ℕ → Option Y) (lids : List ℕ) (at count : ℕ) (found : List Y) → filter_map f lids ≡ filter_map f (take at lids) ++ reverse found → length found ≡ count → reverse found ≡ last_of count (filter_map f lids)
scanned_enough {Y} f lids at count found split whole =
    let front : List Y = filter_map f (take at lids) in
    let long : length (filter_map f lids) - count ≡ length front = omega (arith, ap (λ ys. length ys) split, length-append front (reverse found), length-reverse found) in
    sym (ap (λ n. drop n (filter_map f lids)) long ∙ ap (drop (length front)) split ∙ drop-append_seam front (reverse found))

-- all that there are
pub scanned_all : {Y : Type 0} (f : ℕ → Option Y) (lids : List ℕ) (count : ℕ) (found : List Y) → filter_map f lids ≡ filter_map f (take 0 lids) ++ reverse found → length found ≤ count → reverse found ≡ last_of count (filter_map f lids)
scanned_all f lids count found split few =
    let short : length (filter_map f lids) - count ≡ 0 = omega (arith, ap (λ ys. length ys) split, length-reverse found) in
    sym (ap (λ n. drop n (filter_map f lids)) short ∙ split)
