-- Numbers of a range by the bytes that spell them, the highest first.
use Rattle.std.proofs.Common.{◌≡◌, ℕ, zero, suc, ◌+◌, ◌-◌, ◌*◌, ◌/◌, ◌%◌, ◌^◌, ◌<◌, ◌≤◌, ◌⊎◌, max, List, [], ◌∷◌, ◌++◌, length, take, drop, get_or, refl, ap, ap₂, sym, ◌∙◌, subst, inl, inr, arith, append-nil, take-append-drop, get_or-drop, true, leb, ◌↔◌}
use Rattle.std.proofs.Math.Nat.{div-div-eq-div-mul, div-mul-le_self, mul-div_left, le-div_iff_mul-le, div-eq_of_lt, div-one, one-le-pow, pow-suc}
use Rattle.std.proofs.lemmas.Nat.{pow-add, div_below, same_from_place, le-div}
use Rattle.std.proofs.lemmas.Bool.{cases_lt, leb-true, le-leb}
use Rattle.std.proofs.lemmas.List.{length-take-le, take_all}
use Rattle.std.specs.Int.{byte_at}
use Rattle.byteorder.specs.Endian.{big_from, big_number, big_bytes}
use Rattle.byteorder.specs.Numbers.{big_from-cons, big_from-take, big_from-lt, big_number-reads_back, length-bytes_high_first}
use Rattle.record_codec.specs.Parts.{shared, Differ, Misses, IsWord, IsCode, IsBetween}
use Rattle.record_codec.specs.Reading.{BeginsNumber}
use Rattle.record_codec.proofs.Shared.{shared_le_left, shared_le_right, take_same, shared_of_take}

abbrev pub AreBytes : List ℕ → Type 0
AreBytes xs = (i : ℕ) → get_or xs i 0 < 256

pow_above : (n : ℕ) → 0 < 256 ^ n
pow_above n = let h = one-le-pow n 256 (omega arith) in omega arith

byte_at-high : (k x : ℕ) → byte_at k x ≡ x / 256 ^ k % 256
byte_at-high zero x = ap (λ (y : ℕ). y % 256) (sym (div-one x))
byte_at-high (suc k) x = refl

-- 2 ^ 8 is 256
pub pow_of_shift : (k : ℕ) → 2 ^ (8 * k) ≡ 256 ^ k
pow_of_shift zero = refl
pow_of_shift (suc k) =
    ap (λ (n : ℕ). 2 ^ n) {x = 8 * suc k} {y = 8 * k + 8} (omega arith) ∙ pow-add 2 (8 * k) 8
    ∙ ap (λ (n : ℕ). n * 256) (pow_of_shift k) ∙ sym (pow-suc 256 k)

-- a number's first k of w bytes are those of what stands above the others
pub take-big_bytes : (w k x : ℕ) → k ≤ w → take k (big_bytes w x) ≡ big_bytes k (x / 256 ^ (w - k))
take-big_bytes w zero x h = refl
take-big_bytes zero (suc k) x h = absurd (omega arith)
take-big_bytes (suc w) (suc k) x h =
    let less : suc w - suc k ≡ w - k = omega arith in
    let whole : w - k + k ≡ w = omega arith in
    let top : byte_at w x ≡ byte_at k (x / 256 ^ (w - k)) =
    byte_at-high w x ∙ ap (λ (n : ℕ). x / 256 ^ n % 256) (sym whole) ∙ ap (λ (n : ℕ). x / n % 256) (pow-add 256 (w - k) k)
    ∙ ap (λ (n : ℕ). n % 256) (sym (div-div-eq-div-mul x (256 ^ (w - k)) (256 ^ k))) ∙ sym (byte_at-high k (x / 256 ^ (w - k))) in
    rw less (ap₂ (λ (b : ℕ) (bs : List ℕ). b ∷ bs) top (take-big_bytes w k x (omega arith)))

-- bytes that make one number are the same
pub same_from_number : (n : ℕ) (xs ys : List ℕ) → length xs ≡ n → length ys ≡ n → AreBytes xs → AreBytes ys → big_from 0 n xs ≡ big_from 0 n ys → xs ≡ ys
same_from_number zero [] [] a b fx fy e = refl
same_from_number zero [] (y ∷ ys) a b fx fy e = absurd (omega arith)
same_from_number zero (x ∷ xs) ys a b fx fy e = absurd (omega arith)
same_from_number (suc n) [] ys a b fx fy e = absurd (omega arith)
same_from_number (suc n) (x ∷ xs) [] a b fx fy e = absurd (omega arith)
same_from_number (suc n) (x ∷ xs) (y ∷ ys) a b fx fy e =
    let gx : AreBytes xs = λ i. fx (suc i) in
    let gy : AreBytes ys = λ i. fy (suc i) in
    let same = same_from_place x (big_from 0 n xs) y (big_from 0 n ys) (256 ^ n) (big_from-lt 0 n xs gx) (big_from-lt 0 n ys gy)
    (ap (λ (r : ℕ). x * 256 ^ n + r) (sym (big_from-cons 0 n x xs)) ∙ e ∙ ap (λ (r : ℕ). y * 256 ^ n + r) (big_from-cons 0 n y ys)) in
    ap₂ (λ (b : ℕ) (bs : List ℕ). b ∷ bs) same.0 (same_from_number n xs ys (omega arith) (omega arith) gx gy same.1)

pub bytes-big_bytes : (n x : ℕ) → AreBytes (big_bytes n x)
bytes-big_bytes zero x i = omega arith
bytes-big_bytes (suc n) x zero = let e = byte_at-high n x in omega (arith, e)
bytes-big_bytes (suc n) x (suc i) = bytes-big_bytes n x i

pub bytes-take : (n : ℕ) (xs : List ℕ) → AreBytes xs → AreBytes (take n xs)
bytes-take zero xs h i = omega arith
bytes-take (suc n) [] h i = omega arith
bytes-take (suc n) (x ∷ xs) h zero = h 0
bytes-take (suc n) (x ∷ xs) h (suc i) = bytes-take n xs (λ j. h (suc j)) i

pub bytes-drop : (n : ℕ) (xs : List ℕ) → AreBytes xs → AreBytes (drop n xs)
bytes-drop n xs h i = omega (arith, get_or-drop n xs i 0, h (n + i))

-- the number in the bytes of a small one
pub number_back : (n x : ℕ) → x < 256 ^ n → big_from 0 n (big_bytes n x) ≡ x
number_back n x h = ap (λ (bs : List ℕ). big_from 0 n bs) (sym (append-nil (big_bytes n x))) ∙ big_number-reads_back n x [] h

high_fits : (w k x : ℕ) → k ≤ w → x < 256 ^ w → x / 256 ^ (w - k) < 256 ^ k
high_fits w k x h fits =
    div_below x (256 ^ (w - k)) (256 ^ k) (pow_above (w - k))
    (let P : ℕ → Type 0 = λ n. x < n in
    subst P (ap (λ (n : ℕ). 256 ^ n) {x = w} {y = k + (w - k)} (omega arith) ∙ pow-add 256 k (w - k)) fits)

-- what the first k bytes of a number make
pub front_number : (w k x : ℕ) → k ≤ w → x < 256 ^ w → big_from 0 k (take k (big_bytes w x)) ≡ x / 256 ^ (w - k)
front_number w k x h fits =
    ap (λ (bs : List ℕ). big_from 0 k bs) (take-big_bytes w k x h) ∙ number_back k (x / 256 ^ (w - k)) (high_fits w k x h fits)

number_of_front : (k : ℕ) (bytes : List ℕ) → big_from 0 k (take k bytes) ≡ big_from 0 k bytes
number_of_front k bytes = big_from-take 0 k k bytes (omega arith)

pub number_of_shared : (w k x : ℕ) (bytes : List ℕ) → k ≤ w → x < 256 ^ w → k ≤ shared (big_bytes w x) bytes → big_number k bytes ≡ x / 256 ^ (w - k)
number_of_shared w k x bytes h fits far =
    sym (number_of_front k bytes) ∙ ap (λ (bs : List ℕ). big_from 0 k bs) (sym (take_same (big_bytes w x) bytes k far)) ∙ front_number w k x h fits

pub shared_of_number : (w k x : ℕ) (bytes : List ℕ) → k ≤ w → x < 256 ^ w → AreBytes bytes → k ≤ length bytes → big_number k bytes ≡ x / 256 ^ (w - k) → k ≤ shared (big_bytes w x) bytes
shared_of_number w k x bytes h fits are room e =
    let size : length (big_bytes w x) ≡ w = length-bytes_high_first w x in
    let inside : k ≤ length (big_bytes w x) = omega arith in
    shared_of_take (big_bytes w x) bytes k inside room
    (same_from_number k (take k (big_bytes w x)) (take k bytes) (length-take-le k (big_bytes w x) inside) (length-take-le k bytes room)
    (bytes-take k (big_bytes w x) (bytes-big_bytes w x)) (bytes-take k bytes are)
    (front_number w k x h fits ∙ sym e ∙ sym (number_of_front k bytes)))

-- no byte begins any number of the range
pub begins_none : (width low high : ℕ) (bytes : List ℕ) → low ≤ high → high < 256 ^ width → BeginsNumber width low high bytes 0
begins_none width low high bytes order fits =
    let least : low / 256 ^ (width - 0) ≡ 0 = div-eq_of_lt (let P : ℕ → Type 0 = λ n. low < 256 ^ n in subst P {x = width} {y = width - 0} (omega arith) (omega arith)) in
    record { least = omega arith; greatest = omega arith }

-- all bytes are those of a number of the range
pub begins_all : (width low high : ℕ) (bytes : List ℕ) (k : ℕ) → width ≤ k → k ≤ width → BeginsNumber width low high bytes k → IsBetween low high (big_number width bytes)
begins_all width low high bytes k above below h =
    let same : k ≡ width = omega arith in
    let none : 256 ^ (width - width) ≡ 1 = ap (λ (n : ℕ). 256 ^ n) {x = width - width} {y = 0} (omega arith) in
    let P : ℕ → Type 0 = λ j. BeginsNumber width low high bytes j in
    let now : BeginsNumber width low high bytes width = subst P same h in
    record {
      least = let e : low / 256 ^ (width - width) ≡ low = ap (λ (n : ℕ). low / n) none ∙ div-one low in omega (arith, e, now.least);
      greatest = let e : high / 256 ^ (width - width) ≡ high = ap (λ (n : ℕ). high / n) none ∙ div-one high in omega (arith, e, now.greatest);
    }

div_mono : (a b u : ℕ) → 0 < u → a ≤ b → a / u ≤ b / u
div_mono a b u some le = le-div (a / u) b u some (let h = div-mul-le_self a u in omega arith)

-- a number of the range that begins with the bytes begins as some number of the range does
pub begins_of_number : (width low high k x : ℕ) (bytes : List ℕ) → k ≤ width → IsBetween low high x → high < 256 ^ width
    → k ≤ shared (big_bytes width x) bytes → BeginsNumber width low high bytes k
begins_of_number width low high k x bytes h within fits far =
    let is : big_number k bytes ≡ x / 256 ^ (width - k) = number_of_shared width k x bytes h (omega (arith, within.greatest)) far in
    record {
      least = let le : low / 256 ^ (width - k) ≤ x / 256 ^ (width - k) = div_mono low x (256 ^ (width - k)) (pow_above (width - k)) within.least in omega arith;
      greatest = let le : x / 256 ^ (width - k) ≤ high / 256 ^ (width - k) = div_mono x high (256 ^ (width - k)) (pow_above (width - k)) within.greatest in omega arith;
    }

-- the number of the range that the bytes begin
pub begun_number : (low high u v : ℕ) → 0 < u → low ≤ high → low / u ≤ v → v ≤ high / u → IsBetween low high (max low (v * u)) × (max low (v * u) / u ≡ v)
begun_number low high u v some order least greatest =
    let top : v * u ≤ high = (le-div_iff_mul-le {k = u} {x = v} {y = high} some).0 greatest in
    let whole : v * u / u ≡ v = mul-div_left v some in (
      record { least = omega arith; greatest = omega arith },
      elim (cases_lt low (v * u)) [
        | inl below ↦ ap (λ (n : ℕ). n / u) {x = max low (v * u)} {y = v * u} (omega arith) ∙ whole
        | inr above ↦ let le : v ≤ low / u = le-div v low u some above in
            ap (λ (n : ℕ). n / u) {x = max low (v * u)} {y = low} (omega arith) ∙ omega arith
      ],
    )

number_most : (width low high : ℕ) (bytes : List ℕ) (n : ℕ) → n < width → high < 256 ^ width
    → (n < width → n < length bytes → BeginsNumber width low high bytes (n + 1) → ⊥)
    → (w : List ℕ) → IsWord (IsBetween low high) (big_bytes width) w → shared w bytes ≤ n
number_most width low high bytes n short fits last w word = elim (cases_lt n (shared w bytes)) [
  | inl far ↦
      let inside : shared w bytes ≤ length bytes = shared_le_right w bytes in
      let P : List ℕ → Type 0 = λ v. n + 1 ≤ shared v bytes in
      absurd (last short (omega arith) (begins_of_number width low high (n + 1) word.value bytes (omega arith) word.allowed fits (subst P word.spelled (omega arith))))
  | inr near ↦ near
]

-- how far bytes go on as a number of the range does
pub number_misses : (width low high : ℕ) (bytes : List ℕ) (n : ℕ) → AreBytes bytes → low ≤ high → high < 256 ^ width → n < width → n ≤ length bytes
    → BeginsNumber width low high bytes n → (n < width → n < length bytes → BeginsNumber width low high bytes (n + 1) → ⊥)
    → Misses (IsWord (IsBetween low high) (big_bytes width)) bytes n
number_misses width low high bytes n are order fits short room begins last =
    let u : ℕ = 256 ^ (width - n) in
    let number = begun_number low high (256 ^ (width - n)) (big_number n bytes) (pow_above (width - n)) order begins.least begins.greatest in
    let x : ℕ = max low (big_number n bytes * 256 ^ (width - n)) in
    let far : n ≤ shared (big_bytes width x) bytes = shared_of_number width n x bytes (omega arith) (omega (arith, number.0.greatest)) are room (sym number.1) in
    let most : (w : List ℕ) → IsWord (IsBetween low high) (big_bytes width) w → shared w bytes ≤ n = number_most width low high bytes n short fits last in
    record {
      word = big_bytes width x;
      is_word = record { value = x; allowed = number.0; spelled = refl };
      reached = let near = most (big_bytes width x) (record { value = x; allowed = number.0; spelled = refl }) in omega arith;
      most = most;
      none = λ w word. let e : length w ≡ width = ap length word.spelled ∙ length-bytes_high_first width word.value in omega (arith, most w word, e);
    }

number_apart : (width low high : ℕ) → high < 256 ^ width → (x y : ℕ) → IsBetween low high x → IsBetween low high y
    → (x ≡ y) ⊎ Differ (big_bytes width x) (big_bytes width y)
number_apart width low high fits x y in_x in_y =
    let size_x : length (big_bytes width x) ≡ width = length-bytes_high_first width x in
    let size_y : length (big_bytes width y) ≡ width = length-bytes_high_first width y in
    let inside = shared_le_left (big_bytes width x) (big_bytes width y) in
    elim (cases_lt (shared (big_bytes width x) (big_bytes width y)) width) [
      | inl parts ↦ inr (record { left = omega arith; right = omega arith })
      | inr whole ↦
          let all : big_bytes width x ≡ big_bytes width y =
          sym (take_all width (big_bytes width x) (omega arith)) ∙ take_same (big_bytes width x) (big_bytes width y) width whole
          ∙ take_all width (big_bytes width y) (omega arith) in
          inl (sym (number_back width x (omega (arith, in_x.greatest))) ∙ ap (λ (bs : List ℕ). big_from 0 width bs) all
          ∙ number_back width y (omega (arith, in_y.greatest)))
    ]

-- numbers of one width that are not equal differ
pub number_code : (width low high : ℕ) → high < 256 ^ width → IsCode (IsBetween low high) (big_bytes width)
number_code width low high fits = record { apart = number_apart width low high fits }

-- a number that was read is spelled by what it was read from
pub spelled_number : (width : ℕ) (bytes : List ℕ) → AreBytes bytes → width ≤ length bytes → bytes ≡ big_bytes width (big_number width bytes) ++ drop width bytes
spelled_number width bytes are room =
    let front : take width bytes ≡ big_bytes width (big_number width bytes) =
    same_from_number width (take width bytes) (big_bytes width (big_number width bytes)) (length-take-le width bytes room)
    (length-bytes_high_first width (big_number width bytes)) (bytes-take width bytes are) (bytes-big_bytes width (big_number width bytes))
    (number_of_front width bytes ∙ sym (number_back width (big_number width bytes) (big_from-lt 0 width bytes are))) in
    sym (take-append-drop width bytes) ∙ ap (λ (bs : List ℕ). bs ++ drop width bytes) front

-- the test of a shift, as the first bytes of a number are tested
pub tested_both : (width low high known : ℕ) (bytes : List ℕ) (n : ℕ) → n ≡ big_number known bytes → low / 2 ^ (8 * (width - known)) ≤ n
    → (leb n (high / 2 ^ (8 * (width - known))) ≡ true) ↔ BeginsNumber width low high bytes known
tested_both width low high known bytes n is least =
    let e : 2 ^ (8 * (width - known)) ≡ 256 ^ (width - known) = pow_of_shift (width - known) in
    let lows : low / 2 ^ (8 * (width - known)) ≡ low / 256 ^ (width - known) = ap (λ (u : ℕ). low / u) e in
    let highs : high / 2 ^ (8 * (width - known)) ≡ high / 256 ^ (width - known) = ap (λ (u : ℕ). high / u) e in (
      λ h. let le = leb-true n (high / 2 ^ (8 * (width - known))) h in record { least = omega arith; greatest = omega arith },
      λ h. le-leb n (high / 2 ^ (8 * (width - known))) (omega (arith, h.greatest)),
    )

pub tested_low : (width low high known : ℕ) (bytes : List ℕ) (n : ℕ) → n ≡ big_number known bytes → n < low / 2 ^ (8 * (width - known))
    → BeginsNumber width low high bytes known → ⊥
tested_low width low high known bytes n is above h =
    let e : 2 ^ (8 * (width - known)) ≡ 256 ^ (width - known) = pow_of_shift (width - known) in
    let lows : low / 2 ^ (8 * (width - known)) ≡ low / 256 ^ (width - known) = ap (λ (u : ℕ). low / u) e in
    omega (arith, h.least)

pub spelled_as : (width : ℕ) (bytes : List ℕ) (n : ℕ) → AreBytes bytes → width ≤ length bytes → n ≡ big_number width bytes → bytes ≡ big_bytes width n ++ drop width bytes
spelled_as width bytes n are room is =
    spelled_number width bytes are room ∙ ap (λ (m : ℕ). big_bytes width m ++ drop width bytes) (sym is)

-- bytes that are no number of the range begin one with fewer bytes
pub begins_fewer : (width low high : ℕ) (bytes : List ℕ) (n : ℕ) → n ≤ width → n ≤ length bytes → (width ≤ length bytes → ¬ IsBetween low high (big_number width bytes))
    → BeginsNumber width low high bytes n → n < width
begins_fewer width low high bytes n within room none begins = elim (cases_lt n width) [
  | inl fewer ↦ fewer
  | inr all ↦ absurd (none (omega arith) (begins_all width low high bytes n all within begins))
]
