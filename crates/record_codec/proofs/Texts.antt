-- Texts of so many bytes that all pass a test.
use Rattle.std.proofs.Common.{◌≡◌, ℕ, ◌+◌, ◌-◌, ◌<◌, ◌≤◌, ◌⊎◌, Bool, true, false, not, cond, ltb, List, [], ◌++◌, length, take, replicate, get_or, Some, None, refl, ap, sym, ◌∙◌, subst, inl, inr, arith, get_or-take}
use Rattle.std.proofs.lemmas.List.{length-append, length-replicate, length-take, length-take-le, get_or-replicate, get_or_append_left, get_or-append_right, take_at, take_all, nil_from_length}
use Rattle.std.proofs.lemmas.List.Sums.{position_or_len_is, fails_before_first}
use Rattle.std.proofs.lemmas.List.Quantifiers.{position-Some}
use Rattle.std.proofs.lemmas.Bool.{cases_lt, cases_Bool, le-ltb, ltb-false, not-true, not-false}
use Rattle.std.specs.List.{position_or_len}
use Rattle.cz_base.specs.Text.{first_bad}
use Rattle.record_codec.specs.Parts.{shared, Differ, Misses, IsWord, IsCode, IsText, as_it_is}
use Rattle.record_codec.specs.declared.fault.DecodeFault.{DecodeFault}
use Rattle.record_codec.specs.declared.fault.DecodeFault.TheVariants.{Malformed}
use Rattle.record_codec.specs.Reading.{ReaderState, FailsAt}
use Rattle.record_codec.proofs.Shared.{shared_le_right, take_same, shared_of_take}

-- every byte passes, so there is no first bad one
pub none_bad : (good : ℕ → Bool) (xs : List ℕ) → ((i : ℕ) → i < length xs → good (get_or xs i 0) ≡ true) → first_bad good xs ≡ None
none_bad good xs each =
    let e : position_or_len (λ b. not (good b)) xs ≡ length xs =
    position_or_len_is (λ b. not (good b)) xs (length xs) 0 (omega arith) (λ k within. ap not (each k within)) (λ past. absurd (omega arith)) in
    ap (λ (n : ℕ). cond (ltb n (length xs)) (Some n) None) e ∙ ap (λ (b : Bool). cond b (Some (length xs)) None) (le-ltb (length xs) (length xs) (omega arith))

-- there is no first bad byte, so every byte passes
pub each_good : (good : ℕ → Bool) (xs : List ℕ) → first_bad good xs ≡ None → (i : ℕ) → i < length xs → good (get_or xs i 0) ≡ true
each_good good xs none i within =
    let n : ℕ = position_or_len (λ b. not (good b)) xs in
    elim (cases_Bool (ltb (position_or_len (λ b. not (good b)) xs) (length xs))) [
      | inl some ↦ let e : Some n ≡ None = sym (ap (λ (b : Bool). cond b (Some n) None) some) ∙ none in cc
      | inr past ↦
          let above = ltb-false (position_or_len (λ b. not (good b)) xs) (length xs) past in
          not-false (good (get_or xs i 0)) (fails_before_first (λ b. not (good b)) xs i 0 (omega arith))
    ]

-- a byte of a text that agrees with the bytes further than that
same_byte : (w bytes : List ℕ) (k : ℕ) → k < shared w bytes → get_or w k 0 ≡ get_or bytes k 0
same_byte w bytes k far =
    sym (get_or-take (k + 1) w k 0 (omega arith)) ∙ ap (λ (xs : List ℕ). get_or xs k 0) (take_same w bytes (k + 1) (omega arith)) ∙ get_or-take (k + 1) bytes k 0 (omega arith)

-- the first k bytes, and good ones after them
completed_good : (good : ℕ → Bool) (n k d : ℕ) (bytes : List ℕ) → good d ≡ true → k < n → k ≤ length bytes
    → ((i : ℕ) → i < k → good (get_or bytes i 0) ≡ true) → IsText good n (take k bytes ++ replicate (n - k) d)
completed_good good n k d bytes is_good short room front =
    let size_front : length (take k bytes) ≡ k = length-take-le k bytes room in
    let size : length (take k bytes ++ replicate (n - k) d) ≡ n = simp (length-append, length-replicate) (omega arith) in
    record {
      size = size;
      passes = none_bad good (take k bytes ++ replicate (n - k) d) (λ i within. elim (cases_lt i k) [
        | inl before ↦ ap good (get_or_append_left (take k bytes) (replicate (n - k) d) 0 i (omega arith) ∙ get_or-take k bytes i 0 before) ∙ front i before
        | inr after ↦ ap good (get_or-append_right (take k bytes) (replicate (n - k) d) k i 0 size_front after ∙ get_or-replicate (n - k) (i - k) d 0 (omega arith)) ∙ is_good
      ]);
    }

text_most : (good : ℕ → Bool) (n k : ℕ) (bytes : List ℕ) → k < n → (k < length bytes → good (get_or bytes k 0) ≡ false)
    → (w : List ℕ) → IsText good n w → shared w bytes ≤ k
text_most good n k bytes short bad w text = elim (cases_lt k (shared w bytes)) [
  | inl far ↦
      let inside = shared_le_right w bytes in
      let no : good (get_or bytes k 0) ≡ false = bad (omega arith) in
      let is : good (get_or w k 0) ≡ true = each_good good w text.passes k (omega (arith, text.size)) in
      let same : good (get_or w k 0) ≡ good (get_or bytes k 0) = ap good (same_byte w bytes k far) in
      cc
  | inr near ↦ near
]

-- how far bytes go on as a text does
pub text_missed : (good : ℕ → Bool) (n k d : ℕ) (bytes : List ℕ) → good d ≡ true → k < n → k ≤ length bytes
    → ((i : ℕ) → i < k → good (get_or bytes i 0) ≡ true) → (k < length bytes → good (get_or bytes k 0) ≡ false)
    → Misses (IsWord (IsText good n) as_it_is) bytes k
text_missed good n k d bytes is_good short room front bad =
    let size_front : length (take k bytes) ≡ k = length-take-le k bytes room in
    let text = completed_good good n k d bytes is_good short room front in
    let far : k ≤ shared (take k bytes ++ replicate (n - k) d) bytes =
    shared_of_take (take k bytes ++ replicate (n - k) d) bytes k (omega (arith, text.size)) room (take_at (take k bytes) (replicate (n - k) d) k size_front) in
    let near = text_most good n k bytes short bad (take k bytes ++ replicate (n - k) d) text in
    let most : (w : List ℕ) → IsWord (IsText good n) as_it_is w → shared w bytes ≤ k = λ w word.
    let P : List ℕ → Type 0 = λ v. shared v bytes ≤ k in subst P (sym word.spelled) (text_most good n k bytes short bad word.value word.allowed) in
    record {
      word = take k bytes ++ replicate (n - k) d;
      is_word = record { value = take k bytes ++ replicate (n - k) d; allowed = text; spelled = refl };
      reached = omega arith;
      most = most;
      none = λ w word. let size : length w ≡ n = ap length word.spelled ∙ word.allowed.size in omega (arith, most w word);
    }

-- the first bad byte of the first n
pub text_bad : (good : ℕ → Bool) (n k d : ℕ) (bytes here : List ℕ) → good d ≡ true → here ≡ take n bytes → first_bad good here ≡ Some k
    → Misses (IsWord (IsText good n) as_it_is) bytes k
text_bad good n k d bytes here is_good is bad =
    let at = position-Some (λ b. not (good b)) here k 0 bad in
    let size = length-take n bytes in
    let size_here : length here ≡ length (take n bytes) = ap length is in
    let same : (i : ℕ) → i < n → get_or here i 0 ≡ get_or bytes i 0 = λ i within. ap (λ (xs : List ℕ). get_or xs i 0) is ∙ get_or-take n bytes i 0 within in
    text_missed good n k d bytes is_good (omega (arith, at.0)) (omega (arith, at.0))
    (λ i before. ap good (sym (same i (omega (arith, at.0)))) ∙ not-false (good (get_or here i 0)) (at.2 i before))
    (λ inside. ap good (sym (same k (omega (arith, at.0)))) ∙ not-true (good (get_or here k 0)) at.1)

-- too few bytes, all of them good
pub text_short : (good : ℕ → Bool) (n d : ℕ) (bytes here : List ℕ) → good d ≡ true → here ≡ take n bytes → length here < n → first_bad good here ≡ None
    → Misses (IsWord (IsText good n) as_it_is) bytes (length here)
text_short good n d bytes here is_good is short none =
    let size = length-take n bytes in
    let size_here : length here ≡ length (take n bytes) = ap length is in
    let whole : here ≡ bytes = is ∙ take_all n bytes (omega arith) in
    let size_bytes : length here ≡ length bytes = ap length whole in
    text_missed good n (length here) d bytes is_good short (omega arith)
    (λ i before. ap (λ (xs : List ℕ). good (get_or xs i 0)) (sym whole) ∙ each_good good here none i before)
    (λ inside. absurd (omega arith))

-- texts of one length that are not equal differ
pub lists_apart : (xs ys : List ℕ) → length xs ≡ length ys → (xs ≡ ys) ⊎ Differ xs ys
lists_apart xs ys size = elim (cases_lt (shared xs ys) (length xs)) [
  | inl parts ↦ inr (record { left = parts; right = omega arith })
  | inr whole ↦ inl (sym (take_all (length xs) xs (omega arith)) ∙ take_same xs ys (length xs) whole ∙ take_all (length xs) ys (omega arith))
]

pub text_code : (good : ℕ → Bool) (n : ℕ) → IsCode (IsText good n) as_it_is
text_code good n = record { apart = λ x y in_x in_y. lists_apart x y (in_x.size ∙ sym in_y.size) }

-- the same of a reader

pub fails_bad : (good : ℕ → Bool) (n k d : ℕ) (p : ReaderState) (here : List ℕ) (f : DecodeFault) → good d ≡ true → here ≡ take n p.left → first_bad good here ≡ Some k
    → f ≡ Malformed (p.at + k) → FailsAt (IsWord (IsText good n) as_it_is) p f
fails_bad good n k d p here f is_good is bad e =
    let P : DecodeFault → Type 0 = λ g. FailsAt (IsWord (IsText good n) as_it_is) p g in
    subst P (sym e) (record { off = k; misses = text_bad good n k d p.left here is_good is bad; is = refl })

pub fails_short : (good : ℕ → Bool) (n d : ℕ) (p : ReaderState) (here : List ℕ) (f : DecodeFault) → good d ≡ true → here ≡ take n p.left → length here < n → first_bad good here ≡ None
    → f ≡ Malformed (p.at + length here) → FailsAt (IsWord (IsText good n) as_it_is) p f
fails_short good n d p here f is_good is short none e =
    let P : DecodeFault → Type 0 = λ g. FailsAt (IsWord (IsText good n) as_it_is) p g in
    subst P (sym e) (record { off = length here; misses = text_short good n d p.left here is_good is short none; is = refl })

-- no byte is left
pub fails_empty : (good : ℕ → Bool) (n most d : ℕ) (p : ReaderState) (here : List ℕ) (f : DecodeFault) → good d ≡ true → 1 ≤ n → n ≤ most → here ≡ take n p.left
    → (length here ≡ 0) ⊎ (most < length here) → f ≡ Malformed (p.at + 0) → FailsAt (IsWord (IsText good n) as_it_is) p f
fails_empty good n most d p here f is_good some few is fault e =
    let size = length-take n p.left in
    let size_here : length here ≡ length (take n p.left) = ap length is in
    let empty : length here ≡ 0 = elim fault [ inl none ↦ none | inr long ↦ absurd (omega arith) ] in
    let nil : here ≡ [] = nil_from_length here empty in
    let e' : f ≡ Malformed (p.at + length here) = e ∙ ap (λ (k : ℕ). Malformed (p.at + k)) (sym empty) in
    fails_short good n d p here f is_good is (omega arith) (ap (λ (xs : List ℕ). first_bad good xs) nil) e'

pub bad_within : (good : ℕ → Bool) (n k : ℕ) (left here : List ℕ) → here ≡ take n left → first_bad good here ≡ Some k → k ≤ length left
bad_within good n k left here is bad =
    let at = position-Some (λ b. not (good b)) here k 0 bad in
    omega (arith, at.0, ap length is, length-take n left)
