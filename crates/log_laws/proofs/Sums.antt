-- Sums over the numbers below one.
use Rattle.std.proofs.Common.{◌≡◌, ◌≢◌, ℕ, zero, suc, ◌+◌, ◌<◌, ◌≤◌, List, [], ◌∷◌, length, get_or, set, refl, ap, ◌∙◌, inl, inr, arith, sum_by}
use Rattle.std.proofs.lemmas.Bool.{cases_eq}
use Rattle.std.proofs.lemmas.List.{get_or-set_same, get_or-set_other}
use Rattle.std.proofs.lemmas.List.Sums.{sum_by-cons}
use Rattle.log_laws.specs.Writes.{sum_below}

pub sum_below-same : (f g : ℕ → ℕ) (n : ℕ) → ((i : ℕ) → i < n → f i ≡ g i) → sum_below f n ≡ sum_below g n
sum_below-same f g zero same = refl
sum_below-same f g (suc n) same = omega (arith, sum_below-same f g n (λ i below. same i (omega arith)), same n (omega arith))

pub sum_below-le : (f g : ℕ → ℕ) (n : ℕ) → ((i : ℕ) → i < n → f i ≤ g i) → sum_below f n ≤ sum_below g n
sum_below-le f g zero le = omega arith
sum_below-le f g (suc n) le = omega (arith, sum_below-le f g n (λ i below. le i (omega arith)), le n (omega arith))

pub sum_below-add : (f g : ℕ → ℕ) (n : ℕ) → sum_below (λ i. f i + g i) n ≡ sum_below f n + sum_below g n
sum_below-add f g zero = refl
sum_below-add f g (suc n) = omega (arith, sum_below-add f g n)

pub sum_below-zero : (f : ℕ → ℕ) (n : ℕ) → ((i : ℕ) → i < n → f i ≡ 0) → sum_below f n ≡ 0
sum_below-zero f zero none = refl
sum_below-zero f (suc n) none = omega (arith, sum_below-zero f n (λ i below. none i (omega arith)), none n (omega arith))

-- one term is greater by c
pub sum_below-one : (f g : ℕ → ℕ) (n s c : ℕ) → s < n → ((i : ℕ) → i ≢ s → g i ≡ f i) → g s ≡ f s + c → sum_below g n ≡ sum_below f n + c
sum_below-one f g zero s c within others one = absurd (omega arith)
sum_below-one f g (suc n) s c within others one = elim (cases_eq n s) [
  | inl here ↦ omega (arith, sum_below-same g f n (λ i below. others i (omega arith)), ap f here, ap g here, one)
  | inr other ↦ omega (arith, sum_below-one f g n s c (omega arith) others one, others n other)
]

-- no term but one is there
pub sum_below-alone : (f : ℕ → ℕ) (n s c : ℕ) → ((i : ℕ) → i ≢ s → f i ≡ 0) → f s ≤ c → sum_below f n ≤ c
sum_below-alone f zero s c others one = omega arith
sum_below-alone f (suc n) s c others one = elim (cases_eq n s) [
  | inl here ↦ omega (arith, sum_below-zero f n (λ i below. others i (omega arith)), ap f here, one)
  | inr other ↦ omega (arith, sum_below-alone f n s c others one, others n other)
]

pub sum_below-front : (f : ℕ → ℕ) (n : ℕ) → sum_below f (suc n) ≡ f 0 + sum_below (λ i. f (suc i)) n
sum_below-front f zero = omega arith
sum_below-front f (suc n) = omega (arith, sum_below-front f n)

-- a sum over a list, by places
pub sum_by-places : {A : Type 0} (f : A → ℕ) (xs : List A) (d : A) → sum_by f xs ≡ sum_below (λ i. f (get_or xs i d)) (length xs)
sum_by-places f [] d = refl
sum_by-places f (x ∷ xs) d = omega (arith, sum_by-cons f x xs, sum_below-front (λ i. f (get_or (x ∷ xs) i d)) (length xs), sum_by-places f xs d)

-- one element of a list changes, and its term grows by c
pub sum_below-set : {A : Type 0} (D : ℕ → A → ℕ) (xs : List A) (s : ℕ) (a d : A) (n c : ℕ) → s < length xs → s < n → D s a ≡ D s (get_or xs s d) + c
    → sum_below (λ i. D i (get_or (set xs s a) i d)) n ≡ sum_below (λ i. D i (get_or xs i d)) n + c
sum_below-set D xs s a d n c there below grows =
    sum_below-one (λ i. D i (get_or xs i d)) (λ i. D i (get_or (set xs s a) i d)) n s c below
    (λ i other. ap (D i) (get_or-set_other xs s i a d other))
    (ap (D s) (get_or-set_same xs s a d there) ∙ grows)
