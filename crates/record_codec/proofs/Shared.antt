-- How many bytes two texts share from the start.
use Rattle.std.proofs.Common.{◌≡◌, ℕ, zero, suc, ◌+◌, ◌<◌, ◌≤◌, ◌⊎◌, cond, eqb, List, [], ◌∷◌, ◌++◌, length, take, length-append, refl, ap, ap₂, sym, ◌∙◌, inl, inr, arith}
use Rattle.std.proofs.lemmas.Bool.{eqb-true, eqb-false, eq-eqb, cases_Bool, ne_eqb}
use Rattle.record_codec.specs.Parts.{shared, Differ}

-- a first byte that is the same
pub shared-same : (x : ℕ) (xs ys : List ℕ) → shared (x ∷ xs) (x ∷ ys) ≡ suc (shared xs ys)
shared-same x xs ys = ap (λ b. cond b (suc (shared xs ys)) 0) (eq-eqb x x refl)

-- a first byte that is not
pub shared-other : (x y : ℕ) (xs ys : List ℕ) → (x ≡ y → ⊥) → shared (x ∷ xs) (y ∷ ys) ≡ 0
shared-other x y xs ys other = ap (λ b. cond b (suc (shared xs ys)) 0) (ne_eqb x y other)

-- either the first bytes are the same, and what follows decides, or nothing is shared
pub shared_cases : (x y : ℕ) (xs ys : List ℕ) → ((x ≡ y) × (shared (x ∷ xs) (y ∷ ys) ≡ suc (shared xs ys))) ⊎ ((x ≡ y → ⊥) × (shared (x ∷ xs) (y ∷ ys) ≡ 0))
shared_cases x y xs ys = elim (cases_Bool (eqb x y)) [
  | inl same ↦ inl (eqb-true x y same, ap (λ b. cond b (suc (shared xs ys)) 0) same)
  | inr other ↦ inr (eqb-false x y other, ap (λ b. cond b (suc (shared xs ys)) 0) other)
]

pub shared_nil : (xs : List ℕ) → shared xs [] ≡ 0
shared_nil [] = refl
shared_nil (x ∷ xs) = refl

pub shared_le_left : (xs ys : List ℕ) → shared xs ys ≤ length xs
shared_le_left [] ys = omega arith
shared_le_left (x ∷ xs) [] = omega arith
shared_le_left (x ∷ xs) (y ∷ ys) = elim (shared_cases x y xs ys) [
  | inl same ↦ omega (arith, same.1, shared_le_left xs ys)
  | inr other ↦ omega (arith, other.1)
]

pub shared_le_right : (xs ys : List ℕ) → shared xs ys ≤ length ys
shared_le_right [] ys = omega arith
shared_le_right (x ∷ xs) [] = omega arith
shared_le_right (x ∷ xs) (y ∷ ys) = elim (shared_cases x y xs ys) [
  | inl same ↦ omega (arith, same.1, shared_le_right xs ys)
  | inr other ↦ omega (arith, other.1)
]

pub shared_comm : (xs ys : List ℕ) → shared xs ys ≡ shared ys xs
shared_comm [] [] = refl
shared_comm [] (y ∷ ys) = refl
shared_comm (x ∷ xs) [] = refl
shared_comm (x ∷ xs) (y ∷ ys) = elim (shared_cases x y xs ys) [
  | inl same ↦ elim (shared_cases y x ys xs) [
    | inl back ↦ omega (arith, same.1, back.1, shared_comm xs ys)
    | inr other ↦ absurd (other.0 (sym same.0))
  ]
  | inr other ↦ elim (shared_cases y x ys xs) [
    | inl back ↦ absurd (other.0 (sym back.0))
    | inr none ↦ omega (arith, other.1, none.1)
  ]
]

-- a common front
pub shared-front : (front xs ys : List ℕ) → shared (front ++ xs) (front ++ ys) ≡ length front + shared xs ys
shared-front [] xs ys = omega arith
shared-front (f ∷ front) xs ys = omega (arith, shared-same f (front ++ xs) (front ++ ys), shared-front front xs ys)

-- what follows a text that has parted does not matter
pub shared-append_left : (xs more ys : List ℕ) → shared xs ys < length xs → shared (xs ++ more) ys ≡ shared xs ys
shared-append_left [] more ys parts = absurd (omega arith)
shared-append_left (x ∷ xs) more [] parts = refl
shared-append_left (x ∷ xs) more (y ∷ ys) parts = elim (shared_cases x y xs ys) [
  | inl same ↦ elim (shared_cases x y (xs ++ more) ys) [
    | inl again ↦ omega (arith, same.1, again.1, shared-append_left xs more ys (omega (arith, same.1)))
    | inr other ↦ absurd (other.0 same.0)
  ]
  | inr other ↦ elim (shared_cases x y (xs ++ more) ys) [
    | inl same ↦ absurd (other.0 same.0)
    | inr again ↦ omega (arith, other.1, again.1)
  ]
]

pub shared-append_right : (xs ys more : List ℕ) → shared xs ys < length ys → shared xs (ys ++ more) ≡ shared xs ys
shared-append_right xs ys more parts =
    shared_comm xs (ys ++ more) ∙ shared-append_left ys more xs (omega (arith, shared_comm xs ys)) ∙ shared_comm ys xs

pub shared-both : (xs ys more others : List ℕ) → Differ xs ys → shared (xs ++ more) (ys ++ others) ≡ shared xs ys
shared-both xs ys more others h =
    shared-append_left xs more (ys ++ others) (omega (arith, h.left, shared-append_right xs ys others h.right)) ∙ shared-append_right xs ys others h.right

pub Differ-append : (xs ys more others : List ℕ) → Differ xs ys → Differ (xs ++ more) (ys ++ others)
Differ-append xs ys more others h =
    let same = shared-both xs ys more others h in record {
      left = simp length-append (omega (arith, same, h.left));
      right = simp length-append (omega (arith, same, h.right));
    }

pub Differ-front : (front xs ys : List ℕ) → Differ xs ys → Differ (front ++ xs) (front ++ ys)
Differ-front front xs ys h =
    let same = shared-front front xs ys in record {
      left = simp length-append (omega (arith, same, h.left));
      right = simp length-append (omega (arith, same, h.right));
    }

-- the first n bytes are the same
pub take_same : (xs ys : List ℕ) (n : ℕ) → n ≤ shared xs ys → take n xs ≡ take n ys
take_same xs ys zero h = refl
take_same [] ys (suc n) h = absurd (omega arith)
take_same (x ∷ xs) [] (suc n) h = absurd (omega arith)
take_same (x ∷ xs) (y ∷ ys) (suc n) h = elim (shared_cases x y xs ys) [
  | inl same ↦ ap₂ (λ (b : ℕ) (bs : List ℕ). b ∷ bs) same.0 (take_same xs ys n (omega (arith, same.1)))
  | inr other ↦ absurd (omega (arith, other.1))
]

pub shared_of_take : (xs ys : List ℕ) (n : ℕ) → n ≤ length xs → n ≤ length ys → take n xs ≡ take n ys → n ≤ shared xs ys
shared_of_take xs ys zero in_xs in_ys e = omega arith
shared_of_take [] ys (suc n) in_xs in_ys e = absurd (omega arith)
shared_of_take (x ∷ xs) [] (suc n) in_xs in_ys e = absurd (omega arith)
shared_of_take (x ∷ xs) (y ∷ ys) (suc n) in_xs in_ys e =
    let head : x ≡ y = cc in
    let rest : take n xs ≡ take n ys = cc in
    elim (shared_cases x y xs ys) [
      | inl same ↦ omega (arith, same.1, shared_of_take xs ys n (omega arith) (omega arith) rest)
      | inr other ↦ absurd (other.0 head)
    ]
