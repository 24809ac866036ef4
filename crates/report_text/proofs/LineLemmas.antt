-- Lists that grow by one element, as words and as lines.
use Rattle.std.proofs.Common.{◌≡◌, ◌<◌, ◌+◌, ℕ, suc, List, [], ◌∷◌, ◌++◌, length, take, get_or, refl, arith, append_assoc, append-nil, add-one, add-zero, length-take, ap, sym, ◌∙◌}
use Rattle.std.proofs.Common.{Result, Ok, Err, OnOk}
use Rattle.std.proofs.Math.Seq.{take-suc}
use Rattle.std.proofs.lemmas.List.{get_or_default}
use Rattle.std.specs.List.{flat_map}
use Rattle.std.proofs.lemmas.Grind.{flat_map-append}
use Rattle.report_text.specs.Numbered.{flat_map_from, below}

-- what f makes of one element, and h of the pieces of that
one_piece : {A B : Type 0} (h : A → List B) (ys : List A) → flat_map h (ys ++ []) ≡ flat_map h ys
one_piece h ys = rw (append-nil) refl

-- one element more at the end
pushed : {X A B : Type 0} (h : A → List B) (g : X → List A) (xs : List X) (x : X) → flat_map h (flat_map g (xs ++ x ∷ [])) ≡ flat_map h (flat_map g xs) ++ flat_map h (g x)
pushed h g xs x =
    ap (λ ys. flat_map h ys) (flat_map-append g xs (x ∷ []))
    ∙ flat_map-append h (flat_map g xs) (g x ++ [])
    ∙ ap (λ t. flat_map h (flat_map g xs) ++ t) (one_piece h (g x))

-- a text that grew by the pieces of a list's first elements grows by those of the next
pub added : {X A B : Type 0} (h : A → List B) (g : X → List A) (start now next : List B) (xs : List X) (i : ℕ) (x : X)
    → now ≡ start ++ flat_map h (flat_map g (take i xs)) → next ≡ now ++ flat_map h (g x) → i < length xs → x ≡ get_or xs i x
    → next ≡ start ++ flat_map h (flat_map g (take (i + 1) xs))
added h g start now next xs i x was is within at =
    let more : take (i + 1) xs ≡ take i xs ++ x ∷ [] = rw (add-one, take-suc xs i x within, ← at) refl in
    is ∙ ap (λ t. t ++ flat_map h (g x)) was ∙ append_assoc start (flat_map h (flat_map g (take i xs))) (flat_map h (g x))
    ∙ ap (λ t. start ++ t) (sym (pushed h g (take i xs) x) ∙ ap (λ ys. flat_map h (flat_map g ys)) (sym more))

-- the same where each element gives one piece
pub added_one : {X A B : Type 0} (h : A → List B) (f : X → A) (start now next : List B) (xs : List X) (i : ℕ) (x : X)
    → now ≡ start ++ flat_map h (flat_map (λ y. f y ∷ []) (take i xs)) → next ≡ now ++ h (f x) → i < length xs → x ≡ get_or xs i x
    → next ≡ start ++ flat_map h (flat_map (λ y. f y ∷ []) (take (i + 1) xs))
added_one h f start now next xs i x was is within at =
    let piece : next ≡ now ++ (h (f x) ++ []) = rw (append-nil) is in
    added h (λ y. f y ∷ []) start now next xs i x was piece within at

-- the same where the elements are read with another default
pub added_read : {X A B : Type 0} (h : A → List B) (f : X → A) (start now next : List B) (xs : List X) (i : ℕ) (d : X)
    → now ≡ start ++ flat_map h (flat_map (λ y. f y ∷ []) (take i xs)) → next ≡ now ++ h (f (get_or xs i d)) → i < length xs
    → next ≡ start ++ flat_map h (flat_map (λ y. f y ∷ []) (take (i + 1) xs))
added_read h f start now next xs i d was is within = added_one h f start now next xs i (get_or xs i d) was is within (get_or_default xs i d (get_or xs i d) within)

-- the same for elements that are told with their numbers
pub flat_map_from-push : {X Y : Type 0} (f : ℕ → X → List Y) (n : ℕ) (xs : List X) (x : X) → flat_map_from f n (xs ++ x ∷ []) ≡ flat_map_from f n xs ++ f (n + length xs) x
flat_map_from-push f n [] x = rw (append-nil, add-zero) refl
flat_map_from-push f n (y ∷ ys) x =
    let same : n + 1 + length ys ≡ n + suc (length ys) = omega arith in
    ap (λ zs. f n y ++ zs) (flat_map_from-push f (n + 1) ys x)
    ∙ sym (append_assoc (f n y) (flat_map_from f (n + 1) ys) (f (n + 1 + length ys) x))
    ∙ ap (λ k. (f n y ++ flat_map_from f (n + 1) ys) ++ f k x) same

pub flat_map_from_more : {X Y : Type 0} (f : ℕ → X → List Y) (n : ℕ) (xs : List X) (i : ℕ) (x : X) → i < length xs → x ≡ get_or xs i x
    → flat_map_from f n (take (i + 1) xs) ≡ flat_map_from f n (take i xs) ++ f (i + n) x
flat_map_from_more f n xs i x within is =
    let number : n + length (take i xs) ≡ i + n = omega (arith, length-take i xs) in
    rw (add-one, take-suc xs i x within, ← is, flat_map_from-push f n (take i xs) x, number) refl

pub added_numbered : {X A B : Type 0} (h : A → List B) (f : ℕ → X → List A) (n : ℕ) (start now next : List B) (xs : List X) (i : ℕ) (x : X)
    → now ≡ start ++ flat_map h (flat_map_from f n (take i xs)) → next ≡ now ++ flat_map h (f (i + n) x) → i < length xs → x ≡ get_or xs i x
    → next ≡ start ++ flat_map h (flat_map_from f n (take (i + 1) xs))
added_numbered h f n start now next xs i x was is within at =
    is ∙ ap (λ t. t ++ flat_map h (f (i + n) x)) was ∙ append_assoc start (flat_map h (flat_map_from f n (take i xs))) (flat_map h (f (i + n) x))
    ∙ ap (λ t. start ++ t) (sym (flat_map-append h (flat_map_from f n (take i xs)) (f (i + n) x)) ∙ ap (λ ys. flat_map h ys) (sym (flat_map_from_more f n xs i x within at)))

pub added_counted : {X A B : Type 0} (h : A → List B) (f : ℕ → X → List A) (start now next : List B) (xs : List X) (i : ℕ) (x : X)
    → now ≡ start ++ flat_map h (flat_map_from f 0 (take i xs)) → next ≡ now ++ flat_map h (f i x) → i < length xs → x ≡ get_or xs i x
    → next ≡ start ++ flat_map h (flat_map_from f 0 (take (i + 1) xs))
added_counted h f start now next xs i x was is within at =
    let same : i ≡ i + 0 = omega arith in
    added_numbered h f 0 start now next xs i x was (is ∙ ap (λ k. now ++ flat_map h (f k x)) same) within at

-- and for what is told of each number
pub added_below : {A B : Type 0} (h : A → List B) (f : ℕ → List A) (start now next : List B) (n : ℕ)
    → now ≡ start ++ flat_map h (below f n) → next ≡ now ++ flat_map h (f n) → next ≡ start ++ flat_map h (below f (n + 1))
added_below h f start now next n was is =
    is ∙ ap (λ t. t ++ flat_map h (f n)) was ∙ append_assoc start (flat_map h (below f n)) (flat_map h (f n))
    ∙ ap (λ t. start ++ t) (sym (flat_map-append h (below f n) (f n)) ∙ ap (λ k. flat_map h (below f k)) (sym (add-one n)))

-- two lists of pieces one after the other
pub joined : {A B : Type 0} (h : A → List B) (start now next : List B) (xs ys : List A)
    → now ≡ start ++ flat_map h xs → next ≡ now ++ flat_map h ys → next ≡ start ++ flat_map h (xs ++ ys)
joined h start now next xs ys was is =
    is ∙ ap (λ t. t ++ flat_map h ys) was ∙ append_assoc start (flat_map h xs) (flat_map h ys) ∙ ap (λ t. start ++ t) (sym (flat_map-append h xs ys))

-- what is written before the rest
pub before : {A B : Type 0} (h : A → List B) (now next end : List B) (xs rest : List A)
    → next ≡ now ++ flat_map h xs → end ≡ next ++ flat_map h rest → end ≡ now ++ flat_map h (xs ++ rest)
before h now next end xs rest is then =
    then ∙ ap (λ t. t ++ flat_map h rest) is ∙ append_assoc now (flat_map h xs) (flat_map h rest) ∙ ap (λ t. now ++ t) (sym (flat_map-append h xs rest))

pub before_last : {A B E : Type 0} (h : A → List B) (result : Result (Unit {0}) E) (now next end : List B) (xs rest : List A)
    → next ≡ now ++ flat_map h xs → OnOk result (end ≡ next ++ flat_map h rest) → OnOk result (end ≡ now ++ flat_map h (xs ++ rest))
before_last h (Ok x) now next end xs rest is then = before h now next end xs rest is then
before_last h (Err e) now next end xs rest is then = tt
