-- Draws are below their limit, and what is made one after another.
use Rattle.std.proofs.Common.{◌≡◌, ◌+◌, ◌<◌, ◌≤◌, ℕ, zero, suc, List, [], ◌∷◌, ◌++◌, Bool, true, false, length, All, refl, ap, ◌∙◌, add-one, arith}
use Rattle.std.specs.Prelude.{if◌then◌else◌}
use Rattle.std.proofs.lemmas.List.Elements.{All-nil, All-push}
use Rattle.std.proofs.lemmas.List.{length_push}
use Rattle.rand_pcg.specs.Lcg.{Lcg}
use Rattle.script_generator.specs.Draws.{Drawn, draw, many}

pub draw_below : (k : ℕ) (g : Lcg) → 1 ≤ k → (draw k g).0 < k
unfolding draw
draw_below k g some = omega arith

-- what holds of both ways holds of the one that is taken
pub either_way : {A : Type 0} (P : A → Type 0) (test : Bool) (x y : Drawn A) (g : Lcg) → P (x g).0 → P (y g).0 → P ((if test then x else y) g).0
either_way P true x y g here there = here
either_way P false x y g here there = there

-- none has been made
pub many_none : {A : Type 0} (each : ℕ → Drawn A) (g : Lcg) (xs : List A) → xs ≡ [] → (xs, g) ≡ many each 0 g
unfolding many
many_none each g xs none = rw none refl

-- one more is made
pub many_more : {A : Type 0} (each : ℕ → Drawn A) (n : ℕ) (start here after : Lcg) (xs all : List A) (x : A) → (xs, here) ≡ many each n start → (x, after) ≡ each n here
    → all ≡ xs ++ x ∷ [] → (all, after) ≡ many each (n + 1) start
unfolding many
many_more each n start here after xs all x before next one_more =
    let list : xs ≡ (many each n start).0 = ap (λ made. made.0) before in
    let left : here ≡ (many each n start).1 = ap (λ made. made.1) before in
    let last : (x, after) ≡ each n (many each n start).1 = next ∙ ap (each n) left in
    rw (add-one, one_more, list) (ap (λ made. ((many each n start).0 ++ made.0 ∷ [], made.1)) last)

-- so many are made
pub length-many : {A : Type 0} (each : ℕ → Drawn A) (n : ℕ) (g : Lcg) → length (many each n g).0 ≡ n
unfolding many
length-many each zero g = refl
length-many each (suc n) g = length_push (many each n g).0 (each n (many each n g).1).0 ∙ ap (λ k. k + 1) (length-many each n g) ∙ add-one n

-- what holds of each that may be made holds of all
pub All-many : {A : Type 0} (P : A → Type 0) (each : ℕ → Drawn A) (n : ℕ) → ((i : ℕ) (g : Lcg) → i < n → P (each i g).0) → (g : Lcg) → All P (many each n g).0
unfolding many
All-many P each zero holds g = All-nil P
All-many P each (suc n) holds g =
    All-push P (many each n g).0 (each n (many each n g).1).0 (All-many P each n (λ i h below. holds i h (omega arith)) g) (holds n (many each n g).1 (omega arith))
