-- From what a reader missed to the place where bytes stop being some spelling.
use Rattle.std.proofs.Common.{◌≡◌, ◌≢◌, ℕ, ◌+◌, ◌<◌, ◌≤◌, List, [], ◌∷◌, ◌++◌, length, take, drop, Result, Ok, Err, refl, ap, sym, ◌∙◌, subst, inl, inr, arith, take-append-drop}
use Rattle.std.specs.Result.{IfErr, IfOk, MatchResult}
use Rattle.std.proofs.lemmas.List.{append-nil, length-append, length-take-le, take_all, take_at, take-take}
use Rattle.record_codec.specs.declared.fault.DecodeFault.{DecodeFault}
use Rattle.record_codec.specs.declared.fault.DecodeFault.TheVariants.{Malformed, NoMemory}
use Rattle.record_codec.specs.Parts.{shared, Misses, IsWord, IsCode}
use Rattle.record_codec.specs.Reading.{ReaderState, FailsAt, ReadPast}
use Rattle.record_codec.specs.Starts.{IsBadAt, IsRefusedBytes}
use Rattle.record_codec.proofs.Shared.{shared_le_right, shared-front, shared_of_take, take_same}

shared_self : (xs : List ℕ) → shared xs xs ≡ length xs
shared_self xs = let e = shared-front xs [] [] in
    ap (λ (ys : List ℕ). shared ys ys) (sym (append-nil xs)) ∙ e ∙ omega arith

pub bad_of_miss : (W : List ℕ → Type 0) (bytes : List ℕ) (at : ℕ) → Misses W bytes at → IsBadAt W bytes at
bad_of_miss W bytes at h = record {
  bad = λ is. omega (arith, h.none bytes is, shared_self bytes);
  within = omega (arith, h.reached, shared_le_right h.word bytes);
  begun = (
    drop at h.word,
    subst W (sym (ap (λ (xs : List ℕ). xs ++ drop at h.word) (sym (take_same h.word bytes at (omega (arith, h.reached)))) ∙ take-append-drop at h.word)) h.is_word,
  );
  longest = λ n above within begins.
      let size : length (take n bytes) ≡ n = length-take-le n bytes within in
      let inside : n ≤ length (take n bytes ++ begins.0) = omega (arith, length-append (take n bytes) begins.0) in
      let far : n ≤ shared (take n bytes ++ begins.0) bytes = shared_of_take (take n bytes ++ begins.0) bytes n inside within (take_at (take n bytes) begins.0 n size) in
      omega (arith, h.most (take n bytes ++ begins.0) begins.1);
}

above_zero : (xs : List ℕ) → xs ≢ [] → 0 < length xs
above_zero [] some = absurd (some refl)
above_zero (x ∷ xs) some = omega arith

take_whole : (xs : List ℕ) → take (length xs) xs ≡ xs
take_whole xs = take_all (length xs) xs (omega arith)

take_shorter : (xs ys : List ℕ) (k n : ℕ) → k ≤ n → take n xs ≡ take n ys → take k xs ≡ take k ys
take_shorter xs ys k n le e = sym (take-take k n xs le) ∙ ap (λ (zs : List ℕ). take k zs) e ∙ take-take k n ys le

-- a word, and more after it
pub bad_of_more : {X : Type 0} (A : X → Type 0) (s : X → List ℕ) (x : X) (bytes rest : List ℕ) → IsCode A s → A x → bytes ≡ s x ++ rest → rest ≢ [] → IsBadAt (IsWord A s) bytes (length (s x))
bad_of_more {X} A s x bytes rest code in_x is more =
    let size : length bytes ≡ length (s x) + length rest = ap length is ∙ length-append (s x) rest in
    let some : 0 < length rest = above_zero rest more in
    let front : take (length (s x)) bytes ≡ s x = ap (λ (b : List ℕ). take (length (s x)) b) is ∙ take_at (s x) rest (length (s x)) refl in
    let only : (y : X) (n : ℕ) → A y → length (s x) < n → n ≤ length (s y) → take n (s y) ≡ take n bytes → ⊥ = λ y n in_y above inside agrees.
    elim (code.apart y x in_y in_x) [
      | inl same ↦ omega (arith, ap (λ (z : X). length (s z)) same)
      | inr differ ↦
          let shorter : take (length (s x)) (s y) ≡ take (length (s x)) (s x) =
          take_shorter (s y) bytes (length (s x)) n (omega arith) agrees ∙ front ∙ sym (take_whole (s x)) in
          omega (arith, differ.right, shared_of_take (s y) (s x) (length (s x)) (omega arith) (omega arith) shorter)
    ] in
    record {
      bad = λ word. only word.value (length bytes) word.allowed (omega arith) (omega (arith, ap length word.spelled)) (ap (λ (b : List ℕ). take (length bytes) b) (sym word.spelled));
      within = omega arith;
      begun = ([], record { value = x; allowed = in_x; spelled = append-nil (take (length (s x)) bytes) ∙ front });
      longest = λ n above within begins.
          let cut : length (take n bytes) ≡ n = length-take-le n bytes within in
          let word = begins.1 in
          only word.value n word.allowed above (omega (arith, ap length word.spelled, length-append (take n bytes) begins.0, cut))
          (ap (λ (b : List ℕ). take n b) (sym word.spelled) ∙ take_at (take n bytes) begins.0 n cut);
    }

pub bad_same : {W V : List ℕ → Type 0} (bytes : List ℕ) (at : ℕ) → ((w : List ℕ) → W w → V w) → ((w : List ℕ) → V w → W w) → IsBadAt W bytes at → IsBadAt V bytes at
bad_same bytes at there back h = record {
  bad = λ is. h.bad (back bytes is);
  within = h.within;
  begun = (h.begun.0, there (take at bytes ++ h.begun.0) h.begun.1);
  longest = λ n above within begins. h.longest n above within (begins.0, back (take n bytes ++ begins.0) begins.1);
}

-- what a reader of all the bytes missed
pub refused_of_miss : (W : List ℕ → Type 0) (bytes : List ℕ) (f : DecodeFault) → FailsAt W (record { left = bytes; at = 0 }) f → IsRefusedBytes W bytes f
refused_of_miss W bytes (Malformed at) h =
    let P : ℕ → Type 0 = λ n. Misses W bytes n in
    bad_of_miss W bytes at (subst P {x = h.off} {y = at} (omega (arith, h.is)) h.misses)
refused_of_miss W bytes NoMemory h = tt

pub refused_same : {W V : List ℕ → Type 0} (bytes : List ℕ) → ((w : List ℕ) → W w → V w) → ((w : List ℕ) → V w → W w) → (f : DecodeFault) → IsRefusedBytes W bytes f → IsRefusedBytes V bytes f
refused_same bytes there back (Malformed at) h = bad_same bytes at there back h
refused_same bytes there back NoMemory h = tt

-- bytes that are left after a word
pub refused_of_more : {X : Type 0} (A : X → Type 0) (s : X → List ℕ) (x : X) (bytes : List ℕ) (p : ReaderState) → IsCode A s → A x → ReadPast (record { left = bytes; at = 0 }) p (s x)
    → (f : DecodeFault) → (f ≡ Malformed p.at) × (p.left ≢ []) → IsRefusedBytes (IsWord A s) bytes f
refused_of_more A s x bytes p code in_x took f h =
    let P : DecodeFault → Type 0 = λ g. IsRefusedBytes (IsWord A s) bytes g in
    let Q : ℕ → Type 0 = λ n. IsBadAt (IsWord A s) bytes n in
    subst P (sym h.0) (subst Q {x = length (s x)} {y = p.at} (omega (arith, took.at)) (bad_of_more A s x bytes p.left code in_x took.bytes h.1))

-- the bytes are the word of an allowed value
abbrev pub IsWord_of : {X : Type 0} → (X → Type 0) → (X → List ℕ) → List ℕ → X → Type 0
IsWord_of A s bytes x = A x × (bytes ≡ s x)

-- what the bytes spell is what is read
pub only_spelled : {X : Type 0} (W : List ℕ → Type 0) (A : X → Type 0) (s : X → List ℕ) (bytes : List ℕ) (r : Result X DecodeFault) → IsCode A s
    → ((x : X) → A x → W (s x)) → IfOk r (IsWord_of A s bytes) → IfErr r (IsRefusedBytes W bytes) → (x : X) → A x → bytes ≡ s x → MatchResult r (λ y. y ≡ x) (λ f. f ≡ NoMemory)
only_spelled W A s bytes (Ok y) code make ok err x in_x is = elim (code.apart y x ok.0 in_x) [
  | inl same ↦ same
  | inr differ ↦
      let e : s y ≡ s x = sym ok.1 ∙ is in
      absurd (omega (arith, differ.left, ap (λ (w : List ℕ). shared (s y) w) (sym e), shared_self (s y)))
]
only_spelled W A s bytes (Err (Malformed at)) code make ok err x in_x is = absurd (err.bad (subst W (sym is) (make x in_x)))
only_spelled W A s bytes (Err NoMemory) code make ok err x in_x is = refl
