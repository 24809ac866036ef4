-- A link is as it was after a message goes last exactly where it is full and each of its messages is that one.
--
-- By induction on the list: where one message is taken off its front and one is put at its end, and the list is the same,
-- each message is equal to the next one, and the last to the one that was put. The theorem is put_stays.
use Rattle.std.proofs.Common.{◌≡◌, ◌≤◌, List, [], ◌∷◌, ◌++◌, length, ap, ap₂, sym, subst, ◌∙◌, arith, All, Bool, IsTrue}
use Rattle.std.specs.Prelude.{◌↔◌, nat_lt}
use Rattle.std.proofs.lemmas.Bool.{cond_both, ltb-false, le-ltb}
use Rattle.std.proofs.lemmas.List.{length_push}
use Rattle.std.proofs.lemmas.List.Elements.{All-nil, All-cons, All-head, All-tail}
use Rattle.std.specs.Prelude.{cond}
use Rattle.lossy_links.specs.Links.{IsFullOf, put_last}

module _ {A : Type 0} (m : A) where
  abbrev pub IsThis : A → Type 0
  IsThis x = x ≡ m

  turned_same : (x : A) (xs : List A) → All IsThis (x ∷ xs) → xs ++ m ∷ [] ≡ x ∷ xs
  turned_same x [] each = ap (λ y. y ∷ []) (sym (All-head IsThis x [] each))
  turned_same x (y ∷ ys) each =
      let rest : All IsThis (y ∷ ys) = All-tail IsThis x (y ∷ ys) each in
      ap₂ (λ (z : A) zs. z ∷ zs) (All-head IsThis y ys rest ∙ sym (All-head IsThis x (y ∷ ys) each)) (turned_same y ys rest)

  same_turned : (x : A) (xs : List A) → xs ++ m ∷ [] ≡ x ∷ xs → All IsThis (x ∷ xs)
  same_turned x [] same = All-cons IsThis x [] (cc) (All-nil IsThis)
  same_turned x (y ∷ ys) same =
      let rest : All IsThis (y ∷ ys) = same_turned y ys (cc) in
      let first : y ≡ x = cc in
      All-cons IsThis x (y ∷ ys) (sym first ∙ All-head IsThis y ys rest) rest

  full_stays : (ms : List A) → IsFullOf m ms → put_last ms m ≡ ms
  full_stays [] h = absurd (omega (arith, h.full))
  full_stays (x ∷ xs) h =
      ap (λ b. cond b ((x ∷ xs) ++ m ∷ []) (xs ++ m ∷ [])) (le-ltb (length (x ∷ xs)) 64 (omega (arith, h.full))) ∙ turned_same x xs h.each

  stays_full : (ms : List A) → length ms ≤ 64 → put_last ms m ≡ ms → IsFullOf m ms
  stays_full [] within same = absurd (cc)
  stays_full (x ∷ xs) within stays = cond_both (nat_lt (length (x ∷ xs)) 64) ((x ∷ xs) ++ m ∷ []) (xs ++ m ∷ []) (λ (ys : List A). ys ≡ x ∷ xs → IsFullOf m (x ∷ xs))
      (λ b same. absurd (omega (arith, length_push (x ∷ xs) m, ap (λ ys. length ys) same)))
      (λ b same. record { full = omega (arith, ltb-false (length (x ∷ xs)) 64 b, within); each = same_turned x xs same })
      stays

  pub put_stays : (ms : List A) → length ms ≤ 64 → (put_last ms m ≡ ms) ↔ IsFullOf m ms
  put_stays ms within = (stays_full ms within, full_stays ms)

  -- a test of a full link's messages tells it
  pub test_stays : (test : Bool) (ms : List A) → length ms ≡ 64 → IsTrue test ↔ All IsThis ms → IsTrue test ↔ (put_last ms m ≡ ms)
  test_stays test ms full exact = (
    λ passed. full_stays ms (record { full = full; each = exact.0 passed }),
    λ stays. exact.1 (stays_full ms (omega (arith, full)) stays).each,
  )
