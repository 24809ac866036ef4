-- Links that are full of packets which spell one message.
--
-- What the code tests packet by packet is said of the messages that they spell. A put leaves the messages as they are exactly where
-- the link is full of that one. By lists that are related place by place.
use Rattle.std.proofs.Common.{◌≡◌, ℕ, zero, suc, ◌+◌, ◌<◌, ◌≤◌, Bool, true, false, not, IsTrue, List, [], ◌∷◌, length, take, get_or, refl, ap, sym, ◌∙◌, subst, arith, Option, Some, None, Result, Ok, Err, IfOk}
use Rattle.std.specs.Prelude.{◌↔◌}
use Rattle.std.specs.List.{All, AllZip}
use Rattle.std.specs.Option.{option_map_or}
use Rattle.std.proofs.lemmas.List.{get_or_default, take_all}
use Rattle.std.proofs.lemmas.List.Elements.{All-get_or, All-nil}
use Rattle.std.proofs.lemmas.Slice.Zip.{AllZip-long}
use Rattle.lossy_links.specs.Links.{copied, message_at, put_last}
use Rattle.lossy_links.proofs.Full.{put_stays, test_stays}
use Rattle.record_codec.specs.declared.message.Message.{Message}
use Rattle.record_codec.specs.Wire.{SpellsMessage}
use Rattle.record_codec.proofs.Pieces.{all_more}
use Rattle.stage_world.specs.Idle.{TellsApart}
use Rattle.world.specs.Links.{AreSpelled}
use Rattle.world.proofs.LinkLemmas.{AreBoth, zip-message_at}

-- the elements at one place are related
zip-inside : {A B : Type 0} (R : A → B → Type 0) (xs : List A) (ys : List B) (i : ℕ) (x : A) (y : B) → AllZip R xs ys → i < length xs → R (get_or xs i x) (get_or ys i y)
zip-inside R [] ys i x y h within = absurd (omega (arith, within))
zip-inside R (a ∷ xs) [] i x y h within = absurd h
zip-inside R (a ∷ xs) (b ∷ ys) zero x y h within = h.0
zip-inside R (a ∷ xs) (b ∷ ys) (suc i) x y h within = zip-inside R xs ys i x y h.1 (omega (arith, within))

-- a link that is lent
pub lent_spelled : (dcs : ℕ) (row : List (List (List ℕ))) (i e : ℕ) (link : List (List ℕ)) (ms : List Message) → i ≡ e → e < length row → link ≡ get_or row i link → AreSpelled dcs (get_or row e []) ms → AreSpelled dcs link ms
lent_spelled dcs row i e link ms at within is spelled = subst (λ ps. AreSpelled dcs ps ms) (sym (is ∙ ap (λ j. get_or row j link) at ∙ get_or_default row e link [] within)) spelled

-- each of the first messages is m
abbrev pub AreFirst : Message → ℕ → List Message → Type 0
AreFirst m i ms = All (λ x. x ≡ m) (take i ms)

-- what a comparison of one packet with that of m tells
abbrev pub Compares : ℕ → List ℕ → List ℕ → Bool → Type 0
Compares dcs p q same = (x m : Message) → SpellsMessage dcs p x → SpellsMessage dcs q m → IsTrue same ↔ (x ≡ m)

pub compares_as : (dcs : ℕ) (p held q packet : List ℕ) (same : Bool) → p ≡ held → q ≡ packet → Compares dcs p q same → Compares dcs held packet same
compares_as dcs p held q packet same first second compares = subst (λ b. Compares dcs held b same) second (subst (λ b. Compares dcs b q same) first compares)

module _ (dcs : ℕ) (ps : List (List ℕ)) (q : List ℕ) (ms : List Message) (m : Message) (spelled : AreSpelled dcs ps ms) (one : SpellsMessage dcs q m) where
  as_many : length ms ≡ length ps
  as_many = AllZip-long (SpellsMessage dcs) ps ms spelled

  told_at : (i : ℕ) (p : List ℕ) (same : Bool) → i < length ps → p ≡ get_or ps i p → Compares dcs p q same → IsTrue same ↔ (get_or ms i m ≡ m)
  told_at i p same within is compares = compares (get_or ms i m) m (subst (λ b. SpellsMessage dcs b (get_or ms i m)) (sym is) (zip-inside (SpellsMessage dcs) ps ms i p m spelled within)) one

  pub first_more : (i : ℕ) (p : List ℕ) (same : Bool) → i < length ps → p ≡ get_or ps i p → Compares dcs p q same → IsTrue same → AreFirst m i ms → AreFirst m (i + 1) ms
  first_more i p same within is compares passed before =
      let at : get_or ms i m ≡ m = (told_at i p same within is compares).0 passed in
      all_more (λ x. x ≡ m) ms i m (omega (arith, within, as_many)) (sym at) before refl

  pub one_is_other : (i : ℕ) (p : List ℕ) (same : Bool) → i < length ps → p ≡ get_or ps i p → Compares dcs p q same → same ≡ false → IsTrue false ↔ All (λ x. x ≡ m) ms
  one_is_other i p same within is compares failed = (
    λ passed. absurd (cc),
    λ all. absurd (let passed : same ≡ true = (told_at i p same within is compares).1 (All-get_or (λ x. x ≡ m) ms i m (omega (arith, within, as_many)) all) in cc),
  )

  pub all_are : (i : ℕ) → length ps ≤ i → AreFirst m i ms → IsTrue true ↔ All (λ x. x ≡ m) ms
  all_are i past before = (λ _. subst (All (λ x. x ≡ m)) (take_all i ms (omega (arith, past, as_many))) before, λ _. refl)

  -- a link with room is another one after a put
  pub room_left : length ps < 64 → IsTrue false ↔ (put_last ms m ≡ ms)
  room_left room = (λ passed. absurd (cc), λ stays. absurd (omega (arith, room, as_many, ((put_stays m ms (omega (arith, room, as_many))).0 stays).full)))

  pub full_tells : {E : Type 0} (r : Result Bool E) → length ps ≤ 64 → 64 ≤ length ps → IfOk r (λ all. IsTrue all ↔ All (λ x. x ≡ m) ms) → IfOk r (λ full. IsTrue full ↔ (put_last ms m ≡ ms))
  full_tells (Ok all) few many tells = test_stays m all ms (omega (arith, few, many, as_many)) tells
  full_tells (Err e) few many tells = tt

  -- whether it is another one
  pub put_tells : (kept : Bool) → IsTrue kept ↔ (put_last ms m ≡ ms) → TellsApart (not kept) ms (put_last ms m)
  put_tells true exact = record { same = λ _. sym (exact.0 refl); other = λ yes. absurd (cc) }
  put_tells false exact = record { same = λ no. absurd (cc); other = λ _ equal. absurd (let yes : false ≡ true = exact.1 (sym equal) in cc) }

-- a copy

pub copy_tells : (ms : List Message) (k : ℕ) (kept : Bool) → IsTrue kept ↔ (copied ms k ≡ ms) → TellsApart (not kept) ms (copied ms k)
copy_tells ms k true exact = record { same = λ _. sym (exact.0 refl); other = λ yes. absurd (cc) }
copy_tells ms k false exact = record { same = λ no. absurd (cc); other = λ _ equal. absurd (let yes : false ≡ true = exact.1 (sym equal) in cc) }

module _ (dcs : ℕ) (ps : List (List ℕ)) (k : ℕ) (ms : List Message) (spelled : AreSpelled dcs ps ms) where
  none_at : (o : Option Message) → AreBoth (SpellsMessage dcs) None o → option_map_or (put_last ms) o ms ≡ ms
  none_at None both = refl
  none_at (Some m) both = absurd both

  pub none_kept : None ≡ message_at ps k → IsTrue true ↔ (copied ms k ≡ ms)
  none_kept none =
      (λ _. none_at (message_at ms k) (subst (λ o. AreBoth (SpellsMessage dcs) o (message_at ms k)) (sym none) (zip-message_at (SpellsMessage dcs) k ps ms spelled)), λ _. refl)

  some_at : {E : Type 0} (p : List ℕ) (r : Result Bool E) (o : Option Message) → AreBoth (SpellsMessage dcs) (Some p) o → ((m : Message) → SpellsMessage dcs p m → IfOk r (λ full. IsTrue full ↔ (put_last ms m ≡ ms)))
      → IfOk r (λ kept. IsTrue kept ↔ (option_map_or (put_last ms) o ms ≡ ms))
  some_at p r None both tells = absurd both
  some_at p r (Some m) both tells = tells m both

  pub some_kept : {E : Type 0} (p : List ℕ) (r : Result Bool E) → Some p ≡ message_at ps k → ((m : Message) → SpellsMessage dcs p m → IfOk r (λ full. IsTrue full ↔ (put_last ms m ≡ ms)))
      → IfOk r (λ kept. IsTrue kept ↔ (copied ms k ≡ ms))
  some_kept p r there tells =
      some_at p r (message_at ms k) (subst (λ o. AreBoth (SpellsMessage dcs) o (message_at ms k)) (sym there) (zip-message_at (SpellsMessage dcs) k ps ms spelled)) tells
