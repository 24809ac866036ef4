-- What is on a link was put there.
use Rattle.std.proofs.Common.{◌≡◌, ◌⊎◌, ℕ, zero, suc, ◌+◌, ◌≤◌, List, [], ◌∷◌, ◌++◌, length, take, drop, Option, Some, None, refl, ap, sym, ◌∙◌, arith, inl, inr, Contains, length-take, length-drop, get_or-take, get_or-drop}
use Rattle.std.specs.Prelude.{nat_lt}
use Rattle.std.specs.Option.{option_map_or}
use Rattle.std.proofs.lemmas.Bool.{cond_both, ltb-true, ltb-false}
use Rattle.std.proofs.lemmas.Option.{slice_get_within, get_or_from_slice_get}
use Rattle.std.proofs.lemmas.List.{length_push}
use Rattle.std.proofs.lemmas.List.Elements.{Contains-append_cases, Contains-push_cases}
use Rattle.lossy_links.specs.Links.{message_at, without, put_last, copied}

in_take : {A : Type 0} (n : ℕ) (xs : List A) (x : A) → Contains (take n xs) x → Contains xs x
in_take n xs x c = (c.0, omega (arith, length-take n xs, c.1), sym (get_or-take n xs c.0 x (omega (arith, length-take n xs, c.1))) ∙ c.2)

in_drop : {A : Type 0} (n : ℕ) (xs : List A) (x : A) → Contains (drop n xs) x → Contains xs x
in_drop n xs x c = (n + c.0, omega (arith, length-drop n xs, c.1), sym (get_or-drop n xs c.0 x) ∙ c.2)

pub in_without : {A : Type 0} (ms : List A) (k : ℕ) (x : A) → Contains (without ms k) x → Contains ms x
in_without ms zero x c = c
in_without ms (suc k) x c = elim (Contains-append_cases (take k ms) (drop (suc k) ms) x c) [
  | inl before ↦ in_take k ms x before
  | inr after ↦ in_drop (suc k) ms x after
]

pub in_put : {A : Type 0} (ms : List A) (m x : A) → Contains (put_last ms m) x → Contains ms x ⊎ (m ≡ x)
in_put {A} ms m x = cond_both (nat_lt (length ms) 64) (ms ++ m ∷ []) (drop 1 ms ++ m ∷ []) (λ (xs : List A). Contains xs x → Contains ms x ⊎ (m ≡ x))
    (λ _. Contains-push_cases ms m x)
    (λ _ c. elim (Contains-push_cases (drop 1 ms) m x c) [ inl rest ↦ inl (in_drop 1 ms x rest) | inr new ↦ inr new ])

pub in_taken : {A : Type 0} (ms : List A) (k : ℕ) (x : A) → message_at ms k ≡ Some x → Contains ms x
in_taken ms zero x e = absurd (cc)
in_taken ms (suc k) x e = (k, slice_get_within ms k x e, get_or_from_slice_get ms k x x e)

pub in_copied : {A : Type 0} (ms : List A) (k : ℕ) (x : A) → Contains (copied ms k) x → Contains ms x
in_copied {A} ms k x c = go (message_at ms k) refl c
  where
    go : (o : Option A) → message_at ms k ≡ o → Contains (option_map_or (put_last ms) o ms) x → Contains ms x
    go None e c = c
    go (Some m) e c = elim (in_put ms m x c) [ inl old ↦ old | inr same ↦ in_taken ms k x (e ∙ ap (λ y. Some y) same) ]

pub room_kept : {A : Type 0} (ms : List A) (m : A) → length ms ≤ 64 → length (put_last ms m) ≤ 64
room_kept {A} ms m within = cond_both (nat_lt (length ms) 64) (ms ++ m ∷ []) (drop 1 ms ++ m ∷ []) (λ (xs : List A). length xs ≤ 64)
    (λ b. omega (arith, length_push ms m, ltb-true (length ms) 64 b))
    (λ b. omega (arith, length_push (drop 1 ms) m, length-drop 1 ms, ltb-false (length ms) 64 b))
