-- Seeds and their texts.
use Rattle.std.proofs.Common.{◌≡◌, ◌∙◌, ◌<◌, ◌^◌, ◌&&◌, ℕ, Bool, true, false, zero, suc, refl, sym, ap, subst, cond, arith, inl, inr, List, length, get_or, Option, Some, None, Result, Ok, Err, nat_lt, lt-ltb, ltb-true}
use Rattle.std.specs.Prelude.{◌⊎◌, ◌≢◌}
use Rattle.std.specs.Str.{bytes_eq}
use Rattle.std.specs.Str.Parse.{AllDigits, ParsesUnsigned, digits_value}
use Rattle.std.specs.Fmt.{decimal, digits}
use Rattle.std.specs.Result.{result_ok}
use Rattle.std.proofs.lemmas.Option.{none-some, same_Some}
use Rattle.std.proofs.lemmas.Slice.Eq.{bytes_eq-Decides}
use Rattle.std.proofs.lemmas.Str.Parse.{IsNumeralModel, parse_plain}
use Rattle.std.proofs.lemmas.Fmt.{decimal-digits_value, digits_value-decimal, first_decimal, parse-decimal}
use Rattle.clap.proofs.WalkLemmas.{both}
use Rattle.command_line.specs.Words.{seed_of}

-- the words of std for decimal digits
abbrev own : IsNumeralModel (AllDigits 10) (digits_value 10)
own = record { to = λ ds all. all; from = λ ds all. all; same = λ ds all. refl }

-- the text of a number below 2^64 is its seed's
pub seed_of_decimal : (text : List ℕ) (n : ℕ) → n < 2 ^ 64 → text ≡ decimal n → seed_of text ≡ Some n
seed_of_decimal text n low is =
    let value : digits_value 10 text ≡ n = ap (digits_value 10) is ∙ digits_value-decimal own n low in
    let small : nat_lt n (2 ^ 64) ≡ true = lt-ltb n (2 ^ 64) low in
    let same : bytes_eq (decimal n) text ≡ true = (bytes_eq-Decides (decimal n) text).1 (sym is) in
    rw (value, small, same) refl

-- a seed is in its range, and its text is decimal
pub seed_is : (text : List ℕ) (seed : ℕ) → seed_of text ≡ Some seed → (seed < 2 ^ 64) × (text ≡ decimal seed)
seed_is text seed is = go (nat_lt (digits_value 10 text) (2 ^ 64) && bytes_eq (decimal (digits_value 10 text)) text) refl is
  where
    go : (b : Bool) → (nat_lt (digits_value 10 text) (2 ^ 64) && bytes_eq (decimal (digits_value 10 text)) text) ≡ b
        → cond b (Some (digits_value 10 text)) None ≡ Some seed → (seed < 2 ^ 64) × (text ≡ decimal seed)
    go true test found =
        let tests = both (nat_lt (digits_value 10 text) (2 ^ 64)) (bytes_eq (decimal (digits_value 10 text)) text) test in
        let written = sym ((bytes_eq-Decides (decimal (digits_value 10 text)) text).0 tests.1) in
        subst (λ n. (n < 2 ^ 64) × (text ≡ decimal n)) (same_Some (digits_value 10 text) seed found) (ltb-true (digits_value 10 text) (2 ^ 64) tests.0, written)
    go false test found = absurd (none-some seed found)

-- a text of no such number has no seed
pub no_seed : (text : List ℕ) → ((n : ℕ) → n < 2 ^ 64 → text ≡ decimal n → ⊥) → seed_of text ≡ None
no_seed text none = read (seed_of text) refl
  where
    read : (o : Option ℕ) → seed_of text ≡ o → o ≡ None
    read None is = refl
    read (Some seed) is = let told = seed_is text seed is in absurd (none seed told.0 told.1)

-- a decimal text begins with no sign, and with 0 only where it is `0`
first_digit : (n : ℕ) → n < 2 ^ 64 → (get_or (decimal n) 0 0 ≡ 43) ⊎ ((get_or (decimal n) 0 0 ≡ 48) × (1 < length (decimal n))) → ⊥
unfolding digits
first_digit zero low (inl sign) =
    let first : get_or (decimal 0) 0 0 ≡ 48 = refl in
    absurd (omega (arith, sign, first))
first_digit zero low (inr needless) =
    let short : length (decimal 0) ≡ 1 = refl in
    absurd (omega (arith, needless.1, short))
first_digit (suc n) low (inl sign) = absurd (omega (arith, sign, first_decimal (suc n) (omega arith) low))
first_digit (suc n) low (inr needless) = absurd (omega (arith, needless.0, first_decimal (suc n) (omega arith) low))

pub no_seed_by_first : (text : List ℕ) → (get_or text 0 0 ≡ 43) ⊎ ((get_or text 0 0 ≡ 48) × (1 < length text)) → None ≡ seed_of text
no_seed_by_first text first = sym (no_seed text (λ n low is. first_digit n low (subst_first n is first)))
  where
    subst_first : (n : ℕ) → text ≡ decimal n → (get_or text 0 0 ≡ 43) ⊎ ((get_or text 0 0 ≡ 48) × (1 < length text))
        → (get_or (decimal n) 0 0 ≡ 43) ⊎ ((get_or (decimal n) 0 0 ≡ 48) × (1 < length (decimal n)))
    subst_first n is first = rw is at first

-- and what is read of a text with a good first byte is its seed
pub seed_read : {E : Type 0} (text : List ℕ) (r : Result ℕ E) → ParsesUnsigned 64 10 text r → get_or text 0 0 ≢ 43
    → (get_or text 0 0 ≡ 48 → length text ≡ 1) → result_ok r ≡ seed_of text
seed_read {E} text (Ok n) parsed plain least =
    let h = parse_plain own {E = E} 64 text (Ok n) parsed plain in
    let text_is : decimal (digits_value 10 text) ≡ text = decimal-digits_value own text h.0.0 h.0.1 least h.0.2 in
    ap Some h.1 ∙ sym (seed_of_decimal text (digits_value 10 text) h.0.2 (sym text_is))
seed_read {E} text (Err e) parsed plain least = sym (no_seed text (λ n low is. not_ok n (parse-decimal 64 n text (Err e) low low is parsed)))
  where
    not_ok : (n : ℕ) → ◌≡◌ {A = Result ℕ E} (Err e) (Ok n) → ⊥
    not_ok n is = cc
