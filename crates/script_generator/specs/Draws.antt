-- Numbers that are drawn one after another, and what is made of them.
use Rattle.std.specs.Prelude.{ℕ, zero, suc, ◌%◌, List, [], ◌∷◌, ◌++◌}
use Rattle.rand_pcg.specs.Lcg.{Lcg, started, increment_of}
use Rattle.rand_pcg.specs.Pcg.{multiplier_64, pcg32}

-- what is made at a state of the generator, and the state after its draws
abbrev pub Drawn : Type 0 → Type 0
Drawn A = Lcg → A × Lcg

-- the generator of a seed, on stream 1
unfoldable pub seeded : ℕ → Lcg
seeded seed = started 64 multiplier_64 seed (increment_of 64 1)

-- the next word, modulo k
unfoldable pub draw : ℕ → Drawn ℕ
draw k g = ((pcg32 g).0 % k, (pcg32 g).1)

-- what needs no draw
abbrev pub give : {A : Type 0} → A → Drawn A
give x g = (x, g)

infixl 10 ◌>>=◌
-- the draws of the second come after those of the first
abbrev pub ◌>>=◌ : {A B : Type 0} → Drawn A → (A → Drawn B) → Drawn B
(first >>= second) g = second (first g).0 (first g).1

infixl 20 ◌<*>◌
-- a function of what is drawn, one argument after another
abbrev pub ◌<*>◌ : {A B : Type 0} → Drawn (A → B) → Drawn A → Drawn B
(f <*> x) g = ((f g).0 (x (f g).1).0, (x (f g).1).1)

-- so many, one after another, each made by its number, from 0 on
unfoldable pub many : {A : Type 0} → (ℕ → Drawn A) → ℕ → Drawn (List A)
many each zero = give []
many each (suc n) = do
  before ← many each n
  next ← each n
  give (before ++ next ∷ [])
