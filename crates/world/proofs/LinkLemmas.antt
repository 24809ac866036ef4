-- Links of packets, and the messages that they spell.
--
-- What is done to two lists alike keeps them related place by place: a message is taken out, one goes last, one is copied. It is
-- said of any relation, by induction on both lists; packets and messages come at the end.
use Rattle.std.proofs.Common.{◌≡◌, ℕ, zero, suc, ltb, List, [], ◌∷◌, ◌++◌, length, take, drop, get_or, set, replicate, refl, ap, sym, ◌∙◌, subst, Option, Some, None, is_some, slice_get}
use Rattle.std.specs.List.{AllZip}
use Rattle.std.specs.Option.{option_map_or}
use Rattle.std.proofs.lemmas.List.{set-get_or}
use Rattle.std.proofs.lemmas.Bool.{cond_both, cond-true, cond-false}
use Rattle.std.proofs.lemmas.Slice.Zip.{all_zipped_more, AllZip-long}
use Rattle.lossy_links.specs.Links.{copied, lost_by_put, message_at, put_last, without}
use Rattle.record_codec.specs.declared.message.Message.{Message}
use Rattle.world.specs.Links.{AreLinked, AreSpelled, packets_at, with_packets}

-- there are two, which are related, or neither
abbrev pub AreBoth : {A B : Type 0} → (A → B → Type 0) → Option A → Option B → Type 0
AreBoth R None None = Unit {0}
AreBoth R None (Some b) = ⊥
AreBoth R (Some a) None = ⊥
AreBoth R (Some a) (Some b) = R a b

pub both_or_neither : {A B : Type 0} (R : A → B → Type 0) (a : Option A) (b : Option B) → AreBoth R a b → is_some a ≡ is_some b
both_or_neither R None None h = refl
both_or_neither R None (Some b) h = absurd h
both_or_neither R (Some a) None h = absurd h
both_or_neither R (Some a) (Some b) h = refl

module _ {A B : Type 0} (R : A → B → Type 0) where
  zip-append : (xs us : List A) (ys vs : List B) → AllZip R xs ys → AllZip R us vs → AllZip R (xs ++ us) (ys ++ vs)
  zip-append [] us [] vs h k = k
  zip-append [] us (y ∷ ys) vs h k = absurd h
  zip-append (x ∷ xs) us [] vs h k = absurd h
  zip-append (x ∷ xs) us (y ∷ ys) vs h k = (h.0, zip-append xs us ys vs h.1 k)

  zip-take : (n : ℕ) (xs : List A) (ys : List B) → AllZip R xs ys → AllZip R (take n xs) (take n ys)
  zip-take zero xs ys h = tt
  zip-take (suc n) [] [] h = tt
  zip-take (suc n) [] (y ∷ ys) h = absurd h
  zip-take (suc n) (x ∷ xs) [] h = absurd h
  zip-take (suc n) (x ∷ xs) (y ∷ ys) h = (h.0, zip-take n xs ys h.1)

  zip-drop : (n : ℕ) (xs : List A) (ys : List B) → AllZip R xs ys → AllZip R (drop n xs) (drop n ys)
  zip-drop zero xs ys h = h
  zip-drop (suc n) [] [] h = tt
  zip-drop (suc n) [] (y ∷ ys) h = absurd h
  zip-drop (suc n) (x ∷ xs) [] h = absurd h
  zip-drop (suc n) (x ∷ xs) (y ∷ ys) h = zip-drop n xs ys h.1

  zip-set : (xs : List A) (ys : List B) (i : ℕ) (x : A) (y : B) → AllZip R xs ys → R x y → AllZip R (set xs i x) (set ys i y)
  zip-set [] [] i x y h one = tt
  zip-set [] (b ∷ ys) i x y h one = absurd h
  zip-set (a ∷ xs) [] i x y h one = absurd h
  zip-set (a ∷ xs) (b ∷ ys) zero x y h one = (one, h.1)
  zip-set (a ∷ xs) (b ∷ ys) (suc i) x y h one = (h.0, zip-set xs ys i x y h.1 one)

  zip-get_or : (xs : List A) (ys : List B) (i : ℕ) (x : A) (y : B) → AllZip R xs ys → R x y → R (get_or xs i x) (get_or ys i y)
  zip-get_or [] [] i x y h one = one
  zip-get_or [] (b ∷ ys) i x y h one = absurd h
  zip-get_or (a ∷ xs) [] i x y h one = absurd h
  zip-get_or (a ∷ xs) (b ∷ ys) zero x y h one = h.0
  zip-get_or (a ∷ xs) (b ∷ ys) (suc i) x y h one = zip-get_or xs ys i x y h.1 one

  pub zip-replicate : (n : ℕ) (x : A) (y : B) → R x y → AllZip R (replicate n x) (replicate n y)
  zip-replicate zero x y one = tt
  zip-replicate (suc n) x y one = (one, zip-replicate n x y one)

  zip-slice_get : (k : ℕ) (xs : List A) (ys : List B) → AllZip R xs ys → AreBoth R (slice_get xs k) (slice_get ys k)
  zip-slice_get k [] [] h = tt
  zip-slice_get k [] (y ∷ ys) h = absurd h
  zip-slice_get k (x ∷ xs) [] h = absurd h
  zip-slice_get zero (x ∷ xs) (y ∷ ys) h = h.0
  zip-slice_get (suc k) (x ∷ xs) (y ∷ ys) h = zip-slice_get k xs ys h.1

  -- what is done to links

  pub zip-message_at : (k : ℕ) (xs : List A) (ys : List B) → AllZip R xs ys → AreBoth R (message_at xs k) (message_at ys k)
  zip-message_at zero xs ys h = tt
  zip-message_at (suc k) xs ys h = zip-slice_get k xs ys h

  pub zip-without : (k : ℕ) (xs : List A) (ys : List B) → AllZip R xs ys → AllZip R (without xs k) (without ys k)
  zip-without zero xs ys h = h
  zip-without (suc k) xs ys h = zip-append (take k xs) (drop (suc k) xs) (take k ys) (drop (suc k) ys) (zip-take k xs ys h) (zip-drop (suc k) xs ys h)

  pub zip-put_last : (xs : List A) (ys : List B) (x : A) (y : B) → AllZip R xs ys → R x y → AllZip R (put_last xs x) (put_last ys y)
  zip-put_last xs ys x y h one =
      let many : ltb (length ys) 64 ≡ ltb (length xs) 64 = ap (λ n. ltb n 64) (AllZip-long R xs ys h) in
      cond_both (ltb (length xs) 64) (xs ++ x ∷ []) (drop 1 xs ++ x ∷ []) (λ zs. AllZip R zs (put_last ys y))
      (λ room. subst (AllZip R (xs ++ x ∷ [])) (sym (cond-true (ltb (length ys) 64) (ys ++ y ∷ []) (drop 1 ys ++ y ∷ []) (many ∙ room))) (all_zipped_more R xs ys x y h one))
      (λ full. subst (AllZip R (drop 1 xs ++ x ∷ [])) (sym (cond-false (ltb (length ys) 64) (ys ++ y ∷ []) (drop 1 ys ++ y ∷ []) (many ∙ full))) (all_zipped_more R (drop 1 xs) (drop 1 ys) x y (zip-drop 1 xs ys h) one))

  pub zip-lost : (xs : List A) (ys : List B) → AllZip R xs ys → is_some (lost_by_put xs) ≡ is_some (lost_by_put ys)
  zip-lost xs ys h =
      let many : ltb (length ys) 64 ≡ ltb (length xs) 64 = ap (λ n. ltb n 64) (AllZip-long R xs ys h) in
      cond_both (ltb (length xs) 64) None (slice_get xs 0) (λ o. is_some o ≡ is_some (lost_by_put ys))
      (λ room. ap (λ o. is_some o) (sym (cond-true (ltb (length ys) 64) None (slice_get ys 0) (many ∙ room))))
      (λ full. both_or_neither R (slice_get xs 0) (slice_get ys 0) (zip-slice_get 0 xs ys h) ∙ ap (λ o. is_some o) (sym (cond-false (ltb (length ys) 64) None (slice_get ys 0) (many ∙ full))))

-- the packets of a link among all links
pub packets_spelled : (dcs : ℕ) (links : List (List (List (List ℕ)))) (zs : List (List (List Message))) (d e : ℕ) → AreLinked dcs links zs → AreSpelled dcs (packets_at links d e) (get_or (get_or zs d []) e [])
packets_spelled dcs links zs d e h = zip-get_or (AreSpelled dcs) (get_or links d []) (get_or zs d []) e [] [] (zip-get_or (AllZip (AreSpelled dcs)) links zs d [] [] h tt) tt

-- as many links as there are rows, and in each row
pub rows_long : (dcs : ℕ) (links : List (List (List (List ℕ)))) (zs : List (List (List Message))) → AreLinked dcs links zs → length zs ≡ length links
rows_long dcs links zs h = AllZip-long (AllZip (AreSpelled dcs)) links zs h

pub row_long : (dcs : ℕ) (links : List (List (List (List ℕ)))) (zs : List (List (List Message))) (d : ℕ) → AreLinked dcs links zs → length (get_or zs d []) ≡ length (get_or links d [])
row_long dcs links zs d h = AllZip-long (AreSpelled dcs) (get_or links d []) (get_or zs d []) (zip-get_or (AllZip (AreSpelled dcs)) links zs d [] [] h tt)

-- a link is changed
pub with_spelled : (dcs : ℕ) (links : List (List (List (List ℕ)))) (zs : List (List (List Message))) (d e : ℕ) (ps : List (List ℕ)) (ms : List Message) → AreLinked dcs links zs → AreSpelled dcs ps ms
    → AreLinked dcs (with_packets links d e ps) (set zs d (set (get_or zs d []) e ms))
with_spelled dcs links zs d e ps ms h new =
    zip-set (AllZip (AreSpelled dcs)) links zs d (set (get_or links d []) e ps) (set (get_or zs d []) e ms) h
    (zip-set (AreSpelled dcs) (get_or links d []) (get_or zs d []) e ps ms (zip-get_or (AllZip (AreSpelled dcs)) links zs d [] [] h tt) new)

-- links without a message
pub none_linked : (dcs n : ℕ) → AreLinked dcs (replicate n (replicate n [])) (replicate n (replicate n []))
none_linked dcs n = zip-replicate (AllZip (AreSpelled dcs)) n (replicate n []) (replicate n []) (zip-replicate (AreSpelled dcs) n [] [] tt)

-- where there is no such packet, nothing is taken out
remove_none : {A : Type 0} (ms : List A) (k : ℕ) → slice_get ms k ≡ None → take k ms ++ drop (suc k) ms ≡ ms
remove_none [] zero e = refl
remove_none [] (suc k) e = refl
remove_none (m ∷ ms) zero e = absurd (cc)
remove_none (m ∷ ms) (suc k) e = ap (λ xs. m ∷ xs) (remove_none ms k e)

pub without_none : {A : Type 0} (ms : List A) (k : ℕ) → message_at ms k ≡ None → without ms k ≡ ms
without_none ms zero e = refl
without_none ms (suc k) e = remove_none ms k e

pub with_same : (links : List (List (List (List ℕ)))) (d e : ℕ) → with_packets links d e (packets_at links d e) ≡ links
with_same links d e = ap (set links d) (set-get_or (get_or links d []) e []) ∙ set-get_or links d []
