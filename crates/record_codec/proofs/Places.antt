-- What a reader missed, in a part of several.
use Rattle.std.proofs.Common.{◌≡◌, ℕ, ◌+◌, ◌<◌, ◌^◌, List, [], ◌∷◌, ◌++◌, length, Result, Ok, Err, refl, ap, sym, ◌∙◌, subst, arith, append_assoc}
use Rattle.std.proofs.lemmas.List.{length-append, flat_map_more}
use Rattle.std.proofs.lemmas.Result.{err_from_is_err_and, IfErr-weaker}
use Rattle.std.specs.Result.{IfErr, IfOk, IsErrAnd}
use Rattle.std.specs.List.{flat_map}
use Rattle.byteorder.specs.Endian.{big_bytes}
use Rattle.record_codec.specs.declared.fault.DecodeFault.{DecodeFault}
use Rattle.record_codec.specs.declared.fault.DecodeFault.TheVariants.{Malformed, NoMemory}
use Rattle.record_codec.specs.Parts.{Misses, IsWord, IsCode, Both, behind_one_another, IsBetween, AreEach, IsSized, sized}
use Rattle.record_codec.specs.Reading.{ReaderState, ReadPast, FailsAt}
use Rattle.record_codec.proofs.Composing.{Misses-same, first_missed, next_missed}
use Rattle.record_codec.proofs.Several.{size_missed, items_missed, each_missed}

pub ReadPast-none : (p : ReaderState) → ReadPast p p []
ReadPast-none p = record { bytes = refl; at = omega arith }

pub ReadPast-trans : {p q r : ReaderState} {xs ys : List ℕ} → ReadPast p q xs → ReadPast q r ys → ReadPast p r (xs ++ ys)
ReadPast-trans {p} {q} {r} {xs} {ys} a b = record {
  bytes = a.bytes ∙ ap (λ (zs : List ℕ). xs ++ zs) b.bytes ∙ sym (append_assoc xs ys r.left);
  at = omega (arith, a.at, b.at, length-append xs ys);
}

-- one more value
pub ReadPast-push : {X : Type 0} (s : X → List ℕ) {p q r : ReaderState} (xs : List X) (x : X) → ReadPast p q (flat_map s xs) → ReadPast q r (s x) → ReadPast p r (flat_map s (xs ++ x ∷ []))
ReadPast-push s {p} {q} {r} xs x a b =
    let P : List ℕ → Type 0 = λ w. ReadPast p r w in
    subst P (flat_map_more s [] xs x) (ReadPast-trans a b)

pub fails_same : {W V : List ℕ → Type 0} (p : ReaderState) → ((w : List ℕ) → W w → V w) → ((w : List ℕ) → V w → W w) → (f : DecodeFault) → FailsAt W p f → FailsAt V p f
fails_same p there back (Malformed at) h = record { off = h.off; misses = Misses-same there back h.misses; is = h.is }
fails_same p there back NoMemory h = tt

pub fails_first : {X Y : Type 0} {A : X → Type 0} (B : X → Y → Type 0) (s : X → List ℕ) (t : X → Y → List ℕ) (p : ReaderState)
    → ((x : X) → A x → (y : Y) × B x y) → (f : DecodeFault) → FailsAt (IsWord A s) p f → FailsAt (IsWord (Both A B) (behind_one_another s t)) p f
fails_first B s t p more (Malformed at) h = record { off = h.off; misses = first_missed {B = B} t more h.misses; is = h.is }
fails_first B s t p more NoMemory h = tt

pub fails_next : {X Y : Type 0} {A : X → Type 0} (B : X → Y → Type 0) {s : X → List ℕ} (t : X → Y → List ℕ) {p q : ReaderState} {x : X}
    → IsCode A s → A x → ReadPast p q (s x) → (f : DecodeFault) → FailsAt (IsWord (B x) (t x)) q f → FailsAt (IsWord (Both A B) (behind_one_another s t)) p f
fails_next B {s} t {p} {q} {x} code is took (Malformed at) h = record {
  off = length (s x) + h.off;
  misses = next_missed {B = B} t code is took.bytes h.misses refl;
  is = omega (arith, h.is, took.at);
}
fails_next B t code is took NoMemory h = tt

pub fails_size : {Y : Type 0} (width low high : ℕ) (size : Y → ℕ) (B : ℕ → Y → Type 0) (t : Y → List ℕ) (p : ReaderState)
    → ((n : ℕ) (y : Y) → B n y → size y ≡ n) → ((n : ℕ) → IsBetween low high n → (y : Y) × B n y)
    → (f : DecodeFault) → FailsAt (IsWord (IsBetween low high) (big_bytes width)) p f → FailsAt (IsWord (IsSized low high size B) (sized width size t)) p f
fails_size width low high size B t p tells more (Malformed at) h = record { off = h.off; misses = size_missed width low high size B t tells more h.misses; is = h.is }
fails_size width low high size B t p tells more NoMemory h = tt

pub fails_items : {Y : Type 0} (width low high : ℕ) (size : Y → ℕ) (B : ℕ → Y → Type 0) (t : Y → List ℕ) {p q : ReaderState} {n : ℕ}
    → ((n : ℕ) (y : Y) → B n y → size y ≡ n) → high < 256 ^ width → IsBetween low high n → ReadPast p q (big_bytes width n)
    → (f : DecodeFault) → FailsAt (IsWord (B n) t) q f → FailsAt (IsWord (IsSized low high size B) (sized width size t)) p f
fails_items width low high size B t {p} {q} {n} tells fits within took (Malformed at) h = record {
  off = length (big_bytes width n) + h.off;
  misses = items_missed width low high size B t tells fits within took.bytes h.misses refl;
  is = omega (arith, h.is, took.at);
}
fails_items width low high size B t tells fits within took NoMemory h = tt

pub fails_each : {X : Type 0} (A : ℕ → X → Type 0) (s : X → List ℕ) (n m : ℕ) (xs : List X) {p q : ReaderState}
    → ((j : ℕ) → IsCode (A j) s) → ((j : ℕ) → (x : X) × A j x) → AreEach A 0 m xs → m < n → ReadPast p q (flat_map s xs)
    → (f : DecodeFault) → FailsAt (IsWord (A m) s) q f → FailsAt (IsWord (AreEach A 0 n) (flat_map s)) p f
fails_each A s n m xs {p} {q} code make each short took (Malformed at) h =
    let P : ℕ → Type 0 = λ j. Misses (IsWord (A j) s) q.left h.off in
    record {
      off = length (flat_map s xs) + h.off;
      misses = each_missed A s 0 n m xs p.left q.left h.off (length (flat_map s xs) + h.off) code make each short took.bytes
          (subst P {x = m} {y = 0 + m} (omega arith) h.misses) refl;
      is = omega (arith, h.is, took.at);
    }
fails_each A s n m xs code make each short took NoMemory h = tt

-- the exit of a `?`
pub exits : {T : Type 0} {P Q : DecodeFault → Type 0} (r : Result T DecodeFault) (x : DecodeFault) → IsErrAnd r (λ y. y ≡ x) → P x → ((f : DecodeFault) → P f → Q f) → IfErr r Q
exits {T} {P} {Q} r x is h map =
    let e = err_from_is_err_and r is in
    let W : Result T DecodeFault → Type 0 = λ z. IfErr z Q in
    subst W (sym (e.1 ∙ ap (λ (y : DecodeFault). Err y) e.2)) (map x h)

-- the last call, whose answer is returned as it is
pub weaker : {T : Type 0} {P Q : DecodeFault → Type 0} (r : Result T DecodeFault) → IfErr r P → ((f : DecodeFault) → P f → Q f) → IfErr r Q
weaker {T} {P} {Q} r h map = IfErr-weaker r P Q map h

abbrev pub as_err : (T : Type 0) {E : Type 0} → E → Result T E
as_err T e = Err e

pub err_of : (T : Type 0) {E : Type 0} {a b : E} → a ≡ b → as_err T a ≡ as_err T b
err_of T {E} e = ap (λ (x : E). as_err T x) e

-- two clauses on what was read
pub both_ok : {T E : Type 0} {P Q R : T → Type 0} (r : Result T E) → IfOk r P → IfOk r Q → ((x : T) → P x → Q x → R x) → IfOk r R
both_ok (Ok x) p q map = map x p q
both_ok (Err e) p q map = tt
