-- The names and bodies of generated commands are names and bodies.
use Rattle.std.proofs.Common.{◌≡◌, ◌+◌, ◌<◌, ◌≤◌, ◌^◌, ◌%◌, ◌&&◌, ℕ, suc, List, [], ◌∷◌, ◌++◌, Bool, true, false, cond, not, length, refl, ◌∙◌, arith, length-append}
use Rattle.std.specs.Prelude.{None}
use Rattle.std.specs.List.{list_all, position_or_len}
use Rattle.std.specs.Fmt.{decimal}
use Rattle.std.proofs.lemmas.Bool.Decides.{nat_tests}
use Rattle.std.proofs.lemmas.Fmt.{decimal_by_steps, length-decimal-le}
use Rattle.std.proofs.lemmas.Grind.{common_steps}
use Rattle.std.proofs.lemmas.List.Folds.{list_all-append}
use Rattle.cz_base.specs.Text.{IsName, IsBody, first_bad, is_name_byte, is_body_byte}
use Rattle.script_generator.specs.Generated.{key_name, tag_name, command_name, put_body, append_body}

-- A list of good bytes has no bad one.

one_more : (good : Bool) (more : Bool) (at n : ℕ) → good && more ≡ true → (more ≡ true → at ≡ n) → cond (not (not good)) (1 + at) 0 ≡ suc n
one_more true more at n both rest = omega (arith, rest both)
one_more false more at n both rest = absurd (cc)

none_before_end : (good : ℕ → Bool) (bytes : List ℕ) → list_all good bytes ≡ true → position_or_len (λ b. not (good b)) bytes ≡ length bytes
none_before_end good [] all = refl
none_before_end good (b ∷ bytes) all = one_more (good b) (list_all good bytes) (position_or_len (λ c. not (good c)) bytes) (length bytes) all (none_before_end good bytes)

none_bad : (good : ℕ → Bool) (bytes : List ℕ) → list_all good bytes ≡ true → first_bad good bytes ≡ None
none_bad good bytes all = let end = none_before_end good bytes all in grind (arith, nat_tests, common_steps)

-- Digits are good where each of the ten is.

push_good : (good : ℕ → Bool) (bytes : List ℕ) (b : ℕ) → list_all good bytes ≡ true → good b ≡ true → list_all good (bytes ++ b ∷ []) ≡ true
push_good good bytes b all last = rw (list_all-append good bytes (b ∷ []), all, last) refl

good_digits : (good : ℕ → Bool) → ((d : ℕ) → d < 10 → good (48 + d) ≡ true) → (n : ℕ) → n < 2 ^ 64 → list_all good (decimal n) ≡ true
good_digits good each =
    decimal_by_steps (λ n digits. list_all good digits ≡ true)
    (λ n below. rw (each n below) refl)
    (λ n digits above all. push_good good digits (48 + n % 10) all (each (n % 10) (omega arith)))

name_digit : (d : ℕ) → d < 10 → is_name_byte (48 + d) ≡ true
name_digit d below = grind (arith, nat_tests)

body_digit : (d : ℕ) → d < 10 → is_body_byte (48 + d) ≡ true
body_digit d below = grind (arith, nat_tests)

-- Names.

pub key_is_name : (n : ℕ) → n < 2 ^ 32 → IsName (key_name n)
key_is_name n small = record {
  not_empty = omega arith;
  short = omega (arith, length-decimal-le 10 n (omega arith) (omega arith) (omega arith));
  allowed = none_bad is_name_byte (key_name n) (good_digits is_name_byte name_digit n (omega arith));
}

pub tag_is_name : (n : ℕ) → n < 2 ^ 32 → IsName (tag_name n)
tag_is_name n small = record {
  not_empty = omega arith;
  short = omega (arith, length-decimal-le 10 n (omega arith) (omega arith) (omega arith));
  allowed = none_bad is_name_byte (tag_name n) (good_digits is_name_byte name_digit n (omega arith));
}

-- Bodies: two numbers with a dot between them.

command_good : (s k : ℕ) → s < 2 ^ 64 → k < 2 ^ 64 → list_all is_body_byte (command_name s k) ≡ true
command_good s k small few =
    list_all-append is_body_byte (decimal s) (46 ∷ decimal k) ∙ (let left = good_digits is_body_byte body_digit s small in let right = good_digits is_body_byte body_digit k few in rw (left, right) refl)

command_short : (s k : ℕ) → s < 2 ^ 32 → k < 2 ^ 32 → length (command_name s k) ≤ 21
command_short s k small few =
    omega (arith, length-append (decimal s) (46 ∷ decimal k), length-decimal-le 10 s (omega arith) (omega arith) (omega arith), length-decimal-le 10 k (omega arith) (omega arith) (omega arith))

pub put_is_body : (s k : ℕ) → s < 2 ^ 32 → k < 2 ^ 32 → IsBody (put_body s k)
put_is_body s k small few = record {
  short = omega (arith, command_short s k small few);
  allowed = none_bad is_body_byte (put_body s k) (command_good s k (omega arith) (omega arith));
}

pub append_is_body : (s k : ℕ) → s < 2 ^ 32 → k < 2 ^ 32 → IsBody (append_body s k)
append_is_body s k small few = record {
  short = omega (arith, command_short s k small few);
  allowed = none_bad is_body_byte (append_body s k) (command_good s k (omega arith) (omega arith));
}
