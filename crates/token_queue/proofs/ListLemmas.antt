-- The first element that passes, taken out of a list.
use Rattle.std.proofs.Common.{◌≡◌, ℕ, zero, suc, ◌+◌, ◌<◌, Bool, true, false, cond, List, [], ◌∷◌, length, get_or, refl, ap, sym, ◌∙◌, subst, inl, inr, arith, Option, Some, None}
use Rattle.std.specs.List.{sum_by, All, remove, position, position_or_len}
use Rattle.std.specs.List.Sorted.{IsPermutation}
use Rattle.std.proofs.lemmas.List.Sums.{sum_by-cons, fails_before_first}
use Rattle.std.proofs.lemmas.Bool.{cases_lt, lt-ltb}
use Rattle.std.proofs.lemmas.List.Elements.{All-nil, All-cons, All-head, All-tail}
use Rattle.std.proofs.lemmas.List.Sorted.{IsPermutation-refl, IsPermutation-cons, IsPermutation-trans, IsPermutation-append, IsPermutation-append_comm}
use Rattle.token_queue.specs.Items.{first_out, rest_behind, AreSomeOf}

-- what is taken out passes; the others are as they were
pub record IsOut {X : Type 0} (test : X → Bool) (xs : List X) (found : X × List X) : Type 1 where
  pub passes : test found.0 ≡ true
  pub sums : (f : X → ℕ) → sum_by f xs ≡ f found.0 + sum_by f found.1
  pub each : (P : X → Type 0) → All P xs → P found.0 × All P found.1
  pub shorter : length xs ≡ length found.1 + 1
  pub moved : IsPermutation xs (found.0 ∷ found.1)
  pub ordered : AreSomeOf found.1 xs

pub AreSomeOf-refl : {X : Type 0} (xs : List X) → AreSomeOf xs xs
AreSomeOf-refl [] = tt
AreSomeOf-refl (x ∷ xs) = inl (refl, AreSomeOf-refl xs)

pub AreSomeOf-more : {X : Type 0} (y : X) (xs ys : List X) → AreSomeOf xs ys → AreSomeOf xs (y ∷ ys)
AreSomeOf-more y [] ys h = tt
AreSomeOf-more y (x ∷ xs) ys h = inr h

pub AreSomeOf-trans : {X : Type 0} (xs ys zs : List X) → AreSomeOf xs ys → AreSomeOf ys zs → AreSomeOf xs zs
AreSomeOf-trans [] ys zs h k = tt
AreSomeOf-trans (x ∷ xs) [] zs h k = absurd h
AreSomeOf-trans (x ∷ xs) (y ∷ ys) [] h k = absurd k
AreSomeOf-trans (x ∷ xs) (y ∷ ys) (z ∷ zs) h k = elim k [
  | inl same ↦ elim h [
    | inl here ↦ inl (here.0 ∙ same.0, AreSomeOf-trans xs ys zs here.1 same.1)
    | inr later ↦ inr (AreSomeOf-trans (x ∷ xs) ys zs later same.1)
  ]
  | inr left ↦ inr (AreSomeOf-trans (x ∷ xs) (y ∷ ys) zs h left)
]

two_exchanged : {X : Type 0} (x y : X) (xs : List X) → IsPermutation (x ∷ y ∷ xs) (y ∷ x ∷ xs)
two_exchanged x y xs = IsPermutation-append (x ∷ y ∷ []) (y ∷ x ∷ []) xs xs (IsPermutation-append_comm (x ∷ []) (y ∷ [])) (IsPermutation-refl xs)

is_out_behind : {X : Type 0} (test : X → Bool) (x : X) (xs : List X) (o : Option (X × List X)) (found : X × List X)
    → ((y : X × List X) → o ≡ Some y → IsOut test xs y) → rest_behind x o ≡ Some found → IsOut test (x ∷ xs) found
is_out_behind test x xs None found ih e = absurd (cc)
is_out_behind test x xs (Some y) found ih e =
    let here : IsOut test xs y = ih y refl in
    let is : (y.0, x ∷ y.1) ≡ found = cc in
    subst (λ z. IsOut test (x ∷ xs) z) is (record {
      passes = here.passes;
      sums = λ f. omega (arith, sum_by-cons f x xs, sum_by-cons f x y.1, here.sums f);
      each = λ P all. ((here.each P (All-tail P x xs all)).0, All-cons P x y.1 (All-head P x xs all) (here.each P (All-tail P x xs all)).1);
      shorter = omega (arith, here.shorter);
      moved = IsPermutation-trans (x ∷ xs) (x ∷ y.0 ∷ y.1) (y.0 ∷ x ∷ y.1) (IsPermutation-cons x xs (y.0 ∷ y.1) here.moved) (two_exchanged x y.0 y.1);
      ordered = inl (refl, here.ordered);
    })

is_out_at : {X : Type 0} (test : X → Bool) (x : X) (xs : List X) (found : X × List X) (b : Bool) → test x ≡ b
    → ((y : X × List X) → first_out test xs ≡ Some y → IsOut test xs y) → cond b (Some (x, xs)) (rest_behind x (first_out test xs)) ≡ Some found → IsOut test (x ∷ xs) found
is_out_at test x xs found true passes ih e =
    let is : (x, xs) ≡ found = cc in
    subst (λ z. IsOut test (x ∷ xs) z) is (record {
      passes = passes;
      sums = λ f. sum_by-cons f x xs;
      each = λ P all. (All-head P x xs all, All-tail P x xs all);
      shorter = omega arith;
      moved = IsPermutation-refl (x ∷ xs);
      ordered = AreSomeOf-more x xs xs (AreSomeOf-refl xs);
    })
is_out_at test x xs found false passes ih e = is_out_behind test x xs (first_out test xs) found ih e

-- the first element that passes, and the others
pub is_out : {X : Type 0} (test : X → Bool) (xs : List X) (found : X × List X) → first_out test xs ≡ Some found → IsOut test xs found
is_out test [] found e = absurd (cc)
is_out test (x ∷ xs) found e = is_out_at test x xs found (test x) refl (is_out test xs) e

none_behind : {X : Type 0} (x : X) (o : Option (X × List X)) → rest_behind x o ≡ None → o ≡ None
none_behind x None e = refl
none_behind x (Some y) e = absurd (cc)

none_at : {X : Type 0} (test : X → Bool) (x : X) (xs : List X) (b : Bool) → test x ≡ b → (first_out test xs ≡ None → All (λ y. test y ≡ false) xs)
    → cond b (Some (x, xs)) (rest_behind x (first_out test xs)) ≡ None → All (λ y. test y ≡ false) (x ∷ xs)
none_at test x xs true is ih e = absurd (cc)
none_at test x xs false is ih e = All-cons (λ y. test y ≡ false) x xs is (ih (none_behind x (first_out test xs) e))

-- where none is taken out, none passes
pub none_out : {X : Type 0} (test : X → Bool) (xs : List X) → first_out test xs ≡ None → All (λ x. test x ≡ false) xs
none_out test [] e = All-nil (λ x. test x ≡ false)
none_out test (x ∷ xs) e = none_at test x xs (test x) refl (none_out test xs) e

-- where none passes, none is taken out
pub out_of_none : {X : Type 0} (test : X → Bool) (xs : List X) → All (λ x. test x ≡ false) xs → first_out test xs ≡ None
out_of_none test [] all = refl
out_of_none test (x ∷ xs) all =
    ap (λ b. cond b (Some (x, xs)) (rest_behind x (first_out test xs))) (All-head (λ y. test y ≡ false) x xs all)
    ∙ ap (rest_behind x) (out_of_none test xs (All-tail (λ y. test y ≡ false) x xs all))

-- two tests that agree on the list take out the same
pub first_out_agree : {X : Type 0} (p q : X → Bool) (xs : List X) → All (λ x. p x ≡ q x) xs → first_out p xs ≡ first_out q xs
first_out_agree p q [] all = refl
first_out_agree p q (x ∷ xs) all =
    ap (λ b. cond b (Some (x, xs)) (rest_behind x (first_out p xs))) (All-head (λ y. p y ≡ q y) x xs all)
    ∙ ap (λ o. cond (q x) (Some (x, xs)) (rest_behind x o)) (first_out_agree p q xs (All-tail (λ y. p y ≡ q y) x xs all))

-- what stands at the first place that passes is taken out
pub out_at : {X : Type 0} (test : X → Bool) (xs : List X) (i : ℕ) (x d : X) → i < length xs → ((k : ℕ) → k < i → test (get_or xs k d) ≡ false) → x ≡ get_or xs i d → test x ≡ true
    → first_out test xs ≡ Some (x, remove xs i)
out_at test [] i x d within before is passes = absurd (omega arith)
out_at test (y ∷ ys) zero x d within before is passes =
    ap (λ b. cond b (Some (y, ys)) (rest_behind y (first_out test ys))) (ap test (sym is) ∙ passes) ∙ ap (λ z. Some (z, ys)) (sym is)
out_at test (y ∷ ys) (suc i) x d within before is passes =
    ap (λ b. cond b (Some (y, ys)) (rest_behind y (first_out test ys))) (before 0 (omega arith))
    ∙ ap (rest_behind y) (out_at test ys i x d (omega arith) (λ k below. before (suc k) (omega arith)) is passes)

-- where no place passes, none is taken out
pub out_of_position : {X : Type 0} (p : X → Bool) (xs : List X) → position p xs ≡ None → first_out p xs ≡ None
out_of_position p xs none = out_of_none p xs (λ k d within. fails_before_first p xs k d (elim (cases_lt (position_or_len p xs) (length xs)) [
  | inl found ↦ absurd (let some : position p xs ≡ Some (position_or_len p xs) = ap (λ b. cond b (Some (position_or_len p xs)) None) (lt-ltb (position_or_len p xs) (length xs) found) in cc)
  | inr past ↦ omega arith
]))
