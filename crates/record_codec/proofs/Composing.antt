-- How far bytes go on as the words of parts that stand one after the other.
use Rattle.std.proofs.Common.{◌≡◌, ℕ, ◌+◌, ◌<◌, ◌≤◌, List, ◌++◌, length, refl, ap, sym, ◌∙◌, subst, inl, inr, arith}
use Rattle.std.proofs.lemmas.List.{length-append}
use Rattle.record_codec.specs.Parts.{shared, Differ, Misses, IsWord, IsCode, Both, behind_one_another}
use Rattle.record_codec.proofs.Shared.{shared-front, shared-append_left, shared-both, Differ-append, Differ-front}

-- ---- one part in other words

pub Misses-same : {W V : List ℕ → Type 0} {bytes : List ℕ} {at : ℕ} → ((w : List ℕ) → W w → V w) → ((w : List ℕ) → V w → W w) → Misses W bytes at → Misses V bytes at
Misses-same there back h = record {
  word = h.word;
  is_word = there h.word h.is_word;
  reached = h.reached;
  most = λ w word. h.most w (back w word);
  none = λ w word. h.none w (back w word);
}

-- ---- two parts

-- what is shared with a word of both, where no word of the first begins the bytes
first_only : {X : Type 0} (A : X → Type 0) (s : X → List ℕ) (x : X) (more bytes : List ℕ) (at : ℕ) → A x → Misses (IsWord A s) bytes at
    → (shared (s x ++ more) bytes ≤ at) × (shared (s x ++ more) bytes < length (s x ++ more))
first_only A s x more bytes at is h =
    let is_x : IsWord A s (s x) = record { value = x; allowed = is; spelled = refl } in
    let apart : shared (s x) bytes < length (s x) = h.none (s x) is_x in
    let same : shared (s x ++ more) bytes ≡ shared (s x) bytes = shared-append_left (s x) more bytes apart in
    (omega (arith, h.most (s x) is_x), simp length-append (omega arith))

along : (w v bytes : List ℕ) (at : ℕ) → w ≡ v → (shared v bytes ≤ at) × (shared v bytes < length v) → (shared w bytes ≤ at) × (shared w bytes < length w)
along w v bytes at e h = let P : List ℕ → Type 0 = λ u. (shared u bytes ≤ at) × (shared u bytes < length u) in subst P (sym e) h

-- the first part is missed, and each of its words can be gone on with
pub first_missed : {X Y : Type 0} {A : X → Type 0} {B : X → Y → Type 0} {s : X → List ℕ} (t : X → Y → List ℕ) {bytes : List ℕ} {at : ℕ}
    → ((x : X) → A x → (y : Y) × B x y) → Misses (IsWord A s) bytes at → Misses (IsWord (Both A B) (behind_one_another s t)) bytes at
first_missed {X} {Y} {A} {B} {s} t {bytes} {at} more h =
    let x : X = h.is_word.value in
    let y = more x h.is_word.allowed in
    let is_x : IsWord A s (s x) = record { value = x; allowed = h.is_word.allowed; spelled = refl } in
    let here : shared (s x) bytes ≡ at = ap (λ (w : List ℕ). shared w bytes) (sym h.is_word.spelled) ∙ h.reached in
    let apart : shared (s x) bytes < length (s x) = h.none (s x) is_x in
    record {
      word = s x ++ t x y.0;
      is_word = record { value = (x, y.0); allowed = record { first = h.is_word.allowed; second = y.1 }; spelled = refl };
      reached = shared-append_left (s x) (t x y.0) bytes apart ∙ here;
      most = λ w word. (along w _ bytes at word.spelled (first_only A s word.value.0 (t word.value.0 word.value.1) bytes at word.allowed.first h)).0;
      none = λ w word. (along w _ bytes at word.spelled (first_only A s word.value.0 (t word.value.0 word.value.1) bytes at word.allowed.first h)).1;
    }

-- what is shared with a word of both, where the bytes begin with this word of the first
next_only : {X Y : Type 0} (A : X → Type 0) (B : X → Y → Type 0) (s : X → List ℕ) (t : X → Y → List ℕ) (x z : X) (y : Y) (rest : List ℕ) (at : ℕ)
    → IsCode A s → A x → A z → B z y → Misses (IsWord (B x) (t x)) rest at
    → (shared (s z ++ t z y) (s x ++ rest) ≤ length (s x) + at) × (shared (s z ++ t z y) (s x ++ rest) < length (s z ++ t z y))
next_only {X} {Y} A B s t x z y rest at code in_x in_z is h = elim (code.apart z x in_z in_x) [
  | inl same ↦
      let P : X → Type 0 = λ v. B v y in
      let word : IsWord (B x) (t x) (t x y) = record { value = y; allowed = subst P same is; spelled = refl } in
      let e : shared (s z ++ t z y) (s x ++ rest) ≡ length (s x) + shared (t x y) rest =
      ap (λ (v : X). shared (s v ++ t v y) (s x ++ rest)) same ∙ shared-front (s x) (t x y) rest in
      let size : length (s z ++ t z y) ≡ length (s x) + length (t x y) = ap (λ (v : X). length (s v ++ t v y)) same ∙ length-append (s x) (t x y) in
      (omega (arith, e, h.most (t x y) word), omega (arith, e, size, h.none (t x y) word))
  | inr differ ↦
      let e = shared-both (s z) (s x) (t z y) rest differ in
      (omega (arith, e, differ.right), simp length-append (omega (arith, e, differ.left)))
]

-- the first part is there, and the second is missed
pub next_missed : {X Y : Type 0} {A : X → Type 0} {B : X → Y → Type 0} {s : X → List ℕ} (t : X → Y → List ℕ) {bytes rest : List ℕ} {at whole : ℕ} {x : X}
    → IsCode A s → A x → bytes ≡ s x ++ rest → Misses (IsWord (B x) (t x)) rest at → whole ≡ length (s x) + at → Misses (IsWord (Both A B) (behind_one_another s t)) bytes whole
next_missed {X} {Y} {A} {B} {s} t {bytes} {rest} {at} {whole} {x} code in_x is h sum =
    let y : Y = h.is_word.value in
    let only : (z : X) (v : Y) → A z → B z v → (shared (s z ++ t z v) bytes ≤ whole) × (shared (s z ++ t z v) bytes < length (s z ++ t z v)) =
    λ z v in_z in_v. let o = next_only A B s t x z v rest at code in_x in_z in_v h in
    let e : shared (s z ++ t z v) bytes ≡ shared (s z ++ t z v) (s x ++ rest) = ap (λ (b : List ℕ). shared (s z ++ t z v) b) is in
    (omega (arith, e, o.0), omega (arith, e, o.1)) in
    record {
      word = s x ++ t x y;
      is_word = record { value = (x, y); allowed = record { first = in_x; second = h.is_word.allowed }; spelled = refl };
      reached = ap (λ (b : List ℕ). shared (s x ++ t x y) b) is ∙ shared-front (s x) (t x y) rest
          ∙ ap (λ (w : List ℕ). length (s x) + shared w rest) (sym h.is_word.spelled) ∙ ap (λ (n : ℕ). length (s x) + n) h.reached ∙ sym sum;
      most = λ w word. (along w _ bytes whole word.spelled (only word.value.0 word.value.1 word.allowed.first word.allowed.second)).0;
      none = λ w word. (along w _ bytes whole word.spelled (only word.value.0 word.value.1 word.allowed.first word.allowed.second)).1;
    }

pub Both_code : {X Y : Type 0} {A : X → Type 0} {B : X → Y → Type 0} {s : X → List ℕ} {t : X → Y → List ℕ} → IsCode A s → ((x : X) → A x → IsCode (B x) (t x)) → IsCode (Both A B) (behind_one_another s t)
Both_code {X} {Y} {A} {B} {s} {t} first second = record {
  apart = λ p q in_p in_q. elim (first.apart p.0 q.0 in_p.first in_q.first) [
    | inl same ↦
        let P : X → Type 0 = λ v. B v q.1 in
        elim ((second p.0 in_p.first).apart p.1 q.1 in_p.second (subst P (sym same) in_q.second)) [
          | inl equal ↦ inl (λ i. (same i, equal i))
          | inr differ ↦
              let Q : X → Type 0 = λ v. Differ (s p.0 ++ t p.0 p.1) (s v ++ t v q.1) in
              inr (subst Q same (Differ-front (s p.0) (t p.0 p.1) (t p.0 q.1) differ))
        ]
    | inr differ ↦ inr (Differ-append (s p.0) (s q.0) (t p.0 p.1) (t q.0 q.1) differ)
  ];
}
