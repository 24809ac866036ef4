-- Values behind their size, and one value after the other.
use Rattle.std.proofs.Common.{◌≡◌, ℕ, zero, suc, ◌+◌, ◌<◌, ◌^◌, ◌⊎◌, List, [], ◌∷◌, ◌++◌, length, get_or, refl, ap, ap₂, sym, ◌∙◌, subst, inl, inr, arith, append_assoc}
use Rattle.std.proofs.lemmas.List.{length-append}
use Rattle.std.specs.List.{flat_map}
use Rattle.byteorder.specs.Endian.{big_bytes}
use Rattle.record_codec.specs.Parts.{Differ, Misses, IsWord, IsCode, Both, behind_one_another, IsBetween, AreEach, IsSized, sized}
use Rattle.record_codec.proofs.Numbers.{number_code}
use Rattle.record_codec.proofs.Shared.{Differ-append, Differ-front}
use Rattle.record_codec.proofs.Composing.{Misses-same, first_missed, next_missed, Both_code}

-- ---- a value behind its size

sized_there : {Y : Type 0} (width low high : ℕ) (size : Y → ℕ) (B : ℕ → Y → Type 0) (t : Y → List ℕ) → ((n : ℕ) (y : Y) → B n y → size y ≡ n)
    → (w : List ℕ) → IsWord (Both (IsBetween low high) B) (behind_one_another (big_bytes width) (λ _. t)) w → IsWord (IsSized low high size B) (sized width size t) w
sized_there {Y} width low high size B t tells w word =
    let n : ℕ = word.value.0 in
    let y : Y = word.value.1 in
    let e : size y ≡ n = tells n y word.allowed.second in
    let P : ℕ → Type 0 = λ m. B m y in
    let Q : ℕ → Type 0 = λ m. IsBetween low high m in
    record {
      value = y;
      allowed = record { within = subst Q (sym e) word.allowed.first; items = subst P (sym e) word.allowed.second };
      spelled = word.spelled ∙ ap (λ (m : ℕ). big_bytes width m ++ t y) (sym e);
    }

sized_back : {Y : Type 0} (width low high : ℕ) (size : Y → ℕ) (B : ℕ → Y → Type 0) (t : Y → List ℕ)
    → (w : List ℕ) → IsWord (IsSized low high size B) (sized width size t) w → IsWord (Both (IsBetween low high) B) (behind_one_another (big_bytes width) (λ _. t)) w
sized_back width low high size B t w word = record {
  value = (size word.value, word.value);
  allowed = record { first = word.allowed.within; second = word.allowed.items };
  spelled = word.spelled;
}

-- the size is missed
pub size_missed : {Y : Type 0} (width low high : ℕ) (size : Y → ℕ) (B : ℕ → Y → Type 0) (t : Y → List ℕ) {bytes : List ℕ} {at : ℕ}
    → ((n : ℕ) (y : Y) → B n y → size y ≡ n) → ((n : ℕ) → IsBetween low high n → (y : Y) × B n y)
    → Misses (IsWord (IsBetween low high) (big_bytes width)) bytes at → Misses (IsWord (IsSized low high size B) (sized width size t)) bytes at
size_missed width low high size B t {bytes} {at} tells more h =
    let both : Misses (IsWord (Both (IsBetween low high) B) (behind_one_another (big_bytes width) (λ _. t))) bytes at = first_missed {B = B} (λ _. t) more h in
    Misses-same (sized_there width low high size B t tells) (sized_back width low high size B t) both

-- what stands behind the size is missed
pub items_missed : {Y : Type 0} (width low high : ℕ) (size : Y → ℕ) (B : ℕ → Y → Type 0) (t : Y → List ℕ) {bytes rest : List ℕ} {n at whole : ℕ}
    → ((n : ℕ) (y : Y) → B n y → size y ≡ n) → high < 256 ^ width
    → IsBetween low high n → bytes ≡ big_bytes width n ++ rest → Misses (IsWord (B n) t) rest at → whole ≡ length (big_bytes width n) + at
    → Misses (IsWord (IsSized low high size B) (sized width size t)) bytes whole
items_missed width low high size B t {bytes} {rest} {n} {at} {whole} tells fits within is h sum =
    let both : Misses (IsWord (Both (IsBetween low high) B) (behind_one_another (big_bytes width) (λ _. t))) bytes whole =
    next_missed {B = B} (λ _. t) (number_code width low high fits) within is h sum in
    Misses-same (sized_there width low high size B t tells) (sized_back width low high size B t) both

pub sized_code : {Y : Type 0} (width low high : ℕ) (size : Y → ℕ) (B : ℕ → Y → Type 0) (t : Y → List ℕ)
    → high < 256 ^ width → ((n : ℕ) → IsCode (B n) t) → IsCode (IsSized low high size B) (sized width size t)
sized_code {Y} width low high size B t fits each =
    let both : IsCode (Both (IsBetween low high) B) (behind_one_another (big_bytes width) (λ _. t)) = Both_code {t = λ _. t} (number_code width low high fits) (λ n within. each n) in
    record {
      apart = λ x y in_x in_y. elim (both.apart (size x, x) (size y, y) (record { first = in_x.within; second = in_x.items }) (record { first = in_y.within; second = in_y.items })) [
        | inl same ↦ inl (ap (λ (p : ℕ × Y). p.1) same)
        | inr differ ↦ inr differ
      ];
    }

-- ---- one value after the other

each_there : {X : Type 0} (A : ℕ → X → Type 0) (s : X → List ℕ) (i n : ℕ) (w : List ℕ)
    → IsWord (Both (A i) (λ _. AreEach A (suc i) n)) (behind_one_another s (λ _. flat_map s)) w → IsWord (AreEach A i (suc n)) (flat_map s) w
each_there A s i n w word = record {
  value = word.value.0 ∷ word.value.1;
  allowed = (word.allowed.first, word.allowed.second);
  spelled = word.spelled;
}

each_pair : {X : Type 0} (A : ℕ → X → Type 0) (s : X → List ℕ) (i n : ℕ) (w : List ℕ) (xs : List X) → AreEach A i (suc n) xs → w ≡ flat_map s xs
    → IsWord (Both (A i) (λ _. AreEach A (suc i) n)) (behind_one_another s (λ _. flat_map s)) w
each_pair A s i n w [] each is = absurd (omega (arith, each))
each_pair A s i n w (x ∷ xs) each is = record { value = (x, xs); allowed = record { first = each.0; second = each.1 }; spelled = is }

each_back : {X : Type 0} (A : ℕ → X → Type 0) (s : X → List ℕ) (i n : ℕ) (w : List ℕ)
    → IsWord (AreEach A i (suc n)) (flat_map s) w → IsWord (Both (A i) (λ _. AreEach A (suc i) n)) (behind_one_another s (λ _. flat_map s)) w
each_back A s i n w word = each_pair A s i n w word.value word.allowed word.spelled

-- there are so many such values
pub each_made : {X : Type 0} (A : ℕ → X → Type 0) → ((i : ℕ) → (x : X) × A i x) → (i n : ℕ) → (xs : List X) × AreEach A i n xs
each_made A make i zero = ([], refl)
each_made A make i (suc n) = let rest = each_made A make (suc i) n in ((make i).0 ∷ rest.0, ((make i).1, rest.1))

-- the value after these is missed
pub each_missed : {X : Type 0} (A : ℕ → X → Type 0) (s : X → List ℕ) (i n m : ℕ) (xs : List X) (bytes rest : List ℕ) (at whole : ℕ)
    → ((j : ℕ) → IsCode (A j) s) → ((j : ℕ) → (x : X) × A j x)
    → AreEach A i m xs → m < n → bytes ≡ flat_map s xs ++ rest → Misses (IsWord (A (i + m)) s) rest at → whole ≡ length (flat_map s xs) + at
    → Misses (IsWord (AreEach A i n) (flat_map s)) bytes whole
each_missed A s i zero m xs bytes rest at whole code make each short is h sum = absurd (omega arith)
each_missed {X} A s i (suc n) m [] bytes rest at whole code make each short is h sum =
    let P : ℕ → Type 0 = λ j. Misses (IsWord (A j) s) rest at in
    let Q : List ℕ → Type 0 = λ b. Misses (IsWord (A i) s) b at in
    let here : Misses (IsWord (A i) s) bytes at = subst Q (sym is) (subst P {x = i + m} {y = i} (omega (arith, each)) h) in
    let both : Misses (IsWord (Both (A i) (λ _. AreEach A (suc i) n)) (behind_one_another s (λ _. flat_map s))) bytes at =
    first_missed {B = λ _. AreEach A (suc i) n} (λ _. flat_map s) (λ x in_x. each_made A make (suc i) n) here in
    let R : ℕ → Type 0 = λ k. Misses (IsWord (AreEach A i (suc n)) (flat_map s)) bytes k in
    subst R {x = at} {y = whole} (omega (arith, sum)) (Misses-same (each_there A s i n) (each_back A s i n) both)
each_missed A s i (suc n) zero (x ∷ xs) bytes rest at whole code make each short is h sum = absurd each
each_missed {X} A s i (suc n) (suc m) (x ∷ xs) bytes rest at whole code make each short is h sum =
    let P : ℕ → Type 0 = λ j. Misses (IsWord (A j) s) rest at in
    let tail : Misses (IsWord (AreEach A (suc i) n) (flat_map s)) (flat_map s xs ++ rest) (length (flat_map s xs) + at) =
    each_missed A s (suc i) n m xs (flat_map s xs ++ rest) rest at (length (flat_map s xs) + at) code make each.1 (omega arith) refl
    (subst P {x = i + suc m} {y = suc i + m} (omega arith) h) refl in
    let whole' : whole ≡ length (s x) + (length (flat_map s xs) + at) = omega (arith, sum, length-append (s x) (flat_map s xs)) in
    let both : Misses (IsWord (Both (A i) (λ _. AreEach A (suc i) n)) (behind_one_another s (λ _. flat_map s))) bytes whole =
    next_missed {B = λ _. AreEach A (suc i) n} (λ _. flat_map s) (code i) each.0 (is ∙ append_assoc (s x) (flat_map s xs) rest) tail whole' in
    Misses-same (each_there A s i n) (each_back A s i n) both

each_apart : {X : Type 0} (A : ℕ → X → Type 0) (s : X → List ℕ) (i n : ℕ) (xs ys : List X) → ((j : ℕ) → IsCode (A j) s)
    → AreEach A i n xs → AreEach A i n ys → (xs ≡ ys) ⊎ Differ (flat_map s xs) (flat_map s ys)
each_apart A s i n [] [] code in_xs in_ys = inl refl
each_apart A s i zero [] (y ∷ ys) code in_xs in_ys = absurd in_ys
each_apart A s i (suc n) [] (y ∷ ys) code in_xs in_ys = absurd (omega (arith, in_xs))
each_apart A s i zero (x ∷ xs) ys code in_xs in_ys = absurd in_xs
each_apart A s i (suc n) (x ∷ xs) [] code in_xs in_ys = absurd (omega (arith, in_ys))
each_apart {X} A s i (suc n) (x ∷ xs) (y ∷ ys) code in_xs in_ys = elim ((code i).apart x y in_xs.0 in_ys.0) [
  | inl same ↦ elim (each_apart A s (suc i) n xs ys code in_xs.1 in_ys.1) [
    | inl equal ↦ inl (ap₂ (λ (z : X) (zs : List X). z ∷ zs) same equal)
    | inr differ ↦
        let P : List ℕ → Type 0 = λ front. Differ (s x ++ flat_map s xs) (front ++ flat_map s ys) in
        inr (subst P (ap s same) (Differ-front (s x) (flat_map s xs) (flat_map s ys) differ))
  ]
  | inr differ ↦ inr (Differ-append (s x) (s y) (flat_map s xs) (flat_map s ys) differ)
]

pub each_code : {X : Type 0} (A : ℕ → X → Type 0) (s : X → List ℕ) (i n : ℕ) → ((j : ℕ) → IsCode (A j) s) → IsCode (AreEach A i n) (flat_map s)
each_code A s i n code = record { apart = λ xs ys in_xs in_ys. each_apart A s i n xs ys code in_xs in_ys }

-- one more value
pub each_push : {X : Type 0} (A : ℕ → X → Type 0) (i n : ℕ) (xs : List X) (x : X) → AreEach A i n xs → A (i + n) x → AreEach A i (n + 1) (xs ++ x ∷ [])
each_push A i n [] x each is =
    let P : ℕ → Type 0 = λ m. AreEach A i m (x ∷ []) in
    let Q : ℕ → Type 0 = λ j. A j x in
    subst P {x = 1} {y = n + 1} (omega (arith, each)) (subst Q {x = i + n} {y = i} (omega (arith, each)) is, refl)
each_push A i zero (y ∷ ys) x each is = absurd each
each_push A i (suc n) (y ∷ ys) x each is =
    let Q : ℕ → Type 0 = λ j. A j x in
    let P : ℕ → Type 0 = λ m. AreEach A i m (y ∷ ys ++ x ∷ []) in
    let rest : AreEach A (suc i) (n + 1) (ys ++ x ∷ []) = each_push A (suc i) n ys x each.1 (subst Q {x = i + suc n} {y = suc i + n} (omega arith) is) in
    subst P {x = suc (n + 1)} {y = suc n + 1} (omega arith) (each.0, rest)

pub each_length : {X : Type 0} (A : ℕ → X → Type 0) (i n : ℕ) (xs : List X) → AreEach A i n xs → length xs ≡ n
each_length A i n [] each = sym each
each_length A i zero (x ∷ xs) each = absurd each
each_length A i (suc n) (x ∷ xs) each = ap suc (each_length A (suc i) n xs each.1)

-- ---- values one after the other, by place

pub each_at : {X : Type 0} (A : ℕ → X → Type 0) (i n : ℕ) (xs : List X) → AreEach A i n xs → (k : ℕ) (d : X) → k < n → A (i + k) (get_or xs k d)
each_at A i zero xs each k d within = absurd (omega arith)
each_at A i (suc n) [] each k d within = absurd (omega (arith, each))
each_at {X} A i (suc n) (x ∷ xs) each zero d within = let P : ℕ → Type 0 = λ j. A j x in subst P {x = i} {y = i + 0} (omega arith) each.0
each_at {X} A i (suc n) (x ∷ xs) each (suc k) d within =
    let P : ℕ → Type 0 = λ j. A j (get_or xs k d) in subst P {x = suc i + k} {y = i + suc k} (omega arith) (each_at A (suc i) n xs each.1 k d (omega arith))

pub each_of : {X : Type 0} (A : ℕ → X → Type 0) (i n : ℕ) (xs : List X) → length xs ≡ n → ((k : ℕ) (d : X) → k < n → A (i + k) (get_or xs k d)) → AreEach A i n xs
each_of A i n [] size at = sym size
each_of A i zero (x ∷ xs) size at = absurd (omega arith)
each_of {X} A i (suc n) (x ∷ xs) size at =
    let P : ℕ → Type 0 = λ j. A j x in (
      subst P {x = i + 0} {y = i} (omega arith) (at 0 x (omega arith)),
      each_of A (suc i) n xs (omega arith) (λ k d within. let Q : ℕ → Type 0 = λ j. A j (get_or xs k d) in
          subst Q {x = i + suc k} {y = suc i + k} (omega arith) (at (suc k) d (omega arith))),
    )
