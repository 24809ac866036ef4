-- Lists of turns and of errands, built one after another.
use Rattle.std.proofs.Common.{◌≡◌, ℕ, zero, suc, ◌+◌, ◌<◌, ◌≤◌, Bool, List, [], ◌∷◌, ◌++◌, length, take, map, get_or, cond, refl, ap, ap₂, sym, ◌∙◌, arith, add-one, append_assoc}
use Rattle.std.specs.List.{All, filter, flat_map}
use Rattle.std.proofs.Math.Seq.{take-suc}
use Rattle.std.proofs.lemmas.List.{flat_map_more, map_push}
use Rattle.std.proofs.lemmas.List.Elements.{All-nil, All-head, All-tail, All-append, All-push, filter-append}
use Rattle.stage_world.specs.Opening.{numbered}
use Rattle.stage_world.specs.Settling.{below}
pub use Rattle.stage_world.proofs.OpeningLemmas.{all_below, all_flat, all_numbered}

pub numbered_more : {X : Type 0} (f : ℕ → X) (start xs : List X) (i : ℕ) → xs ≡ start ++ numbered f i → xs ++ f i ∷ [] ≡ start ++ numbered f (i + 1)
numbered_more f start xs i is =
    ap (λ ys. ys ++ f i ∷ []) is ∙ append_assoc start (numbered f i) (f i ∷ []) ∙ sym (ap (λ n. start ++ numbered f n) (add-one i))

pub flat_more : {X : Type 0} (f : ℕ → List X) (start xs : List X) (i : ℕ) → xs ≡ start ++ flat_map f (below i) → xs ++ f i ≡ start ++ flat_map f (below (i + 1))
flat_more f start xs i is = ap (λ ys. ys ++ f i) is ∙ flat_map_more f start (below i) i ∙ sym (ap (λ n. start ++ flat_map f (below n)) (add-one i))

pub map_more : {X Y : Type 0} (f : X → Y) (start ys : List Y) (xs : List X) (i : ℕ) (x : X) → i < length xs → x ≡ get_or xs i x → ys ≡ start ++ map f (take i xs) → ys ++ f x ∷ [] ≡ start ++ map f (take (i + 1) xs)
map_more f start ys xs i x within here is =
    ap (λ zs. zs ++ f x ∷ []) is ∙ append_assoc start (map f (take i xs)) (f x ∷ [])
    ∙ ap (λ zs. start ++ zs) (sym (map_push f (take i xs) x) ∙ ap (λ y. map f (take i xs ++ y ∷ [])) here ∙ ap (map f) (sym (take-suc xs i x within)) ∙ ap (λ n. map f (take n xs)) (sym (add-one i)))

pub flat_taken : {X Y : Type 0} (f : X → List Y) (ys : List Y) (xs : List X) (i : ℕ) (x : X) → i < length xs → x ≡ get_or xs i x → ys ≡ flat_map f (take i xs) → ys ++ f x ≡ flat_map f (take (i + 1) xs)
flat_taken f ys xs i x within here is =
    ap (λ zs. zs ++ f x) is ∙ flat_map_more f [] (take i xs) x
    ∙ ap (λ y. flat_map f (take i xs ++ y ∷ [])) here ∙ ap (flat_map f) (sym (take-suc xs i x within)) ∙ ap (λ n. flat_map f (take n xs)) (sym (add-one i))

pub take_all : {A : Type 0} (xs : List A) (i : ℕ) → length xs ≤ i → take i xs ≡ xs
take_all [] zero past = refl
take_all [] (suc i) past = refl
take_all (x ∷ xs) zero past = absurd (omega (arith, past))
take_all (x ∷ xs) (suc i) past = ap (λ ys. x ∷ ys) (take_all xs i (omega (arith, past)))

-- one piece more behind what came before
pub then_more : {X : Type 0} (start a b xs ys : List X) → xs ≡ start ++ a → ys ≡ xs ++ b → ys ≡ start ++ (a ++ b)
then_more start a b xs ys before next = next ∙ ap (λ zs. zs ++ b) before ∙ append_assoc start a b

-- a number more, if it passes the test
pub filter_next : (p : ℕ → Bool) (xs ys : List ℕ) (i d : ℕ) (passes : Bool) → ys ≡ xs ++ cond passes (d ∷ []) [] → passes ≡ p d → d ≡ i → xs ≡ filter p (below i) → ys ≡ filter p (below (i + 1))
filter_next p xs ys i d passes next is same before =
    next ∙ ap₂ (λ us vs. us ++ vs) before (ap (λ (b : Bool). cond b (d ∷ []) []) is ∙ ap (λ n. filter p (n ∷ [])) same)
    ∙ sym (filter-append p (below i) (i ∷ [])) ∙ sym (ap (λ n. filter p (below n)) (add-one i))

-- a piece more
pub flat_next : {X : Type 0} (f : ℕ → List X) (xs ys y : List X) (i : ℕ) → ys ≡ xs ++ y → y ≡ f i → xs ≡ flat_map f (below i) → ys ≡ flat_map f (below (i + 1))
flat_next f xs ys y i next is before = next ∙ ap (λ zs. xs ++ zs) is ∙ flat_more f [] xs i before
