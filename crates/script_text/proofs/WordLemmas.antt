-- The first word of a line, the words after it, and the numbers that words spell.
use Rattle.std.proofs.Common.{◌≡◌, ◌<◌, ◌≤◌, ◌^◌, ◌*◌, ℕ, ◌+◌, ◌-◌, suc, List, [], ◌∷◌, length, take, drop, get_or, refl, arith, Bool, true, false, zero, cond, ◌&&◌, ap, sym, ◌∙◌, add-one, drop-cons, lit<}
use Rattle.std.proofs.Math.Nat.{pow-le-pow_right}
use Rattle.std.proofs.lemmas.Str.{digit_value_digit, IsUtf8-from_ascii}
use Rattle.std.specs.Char.{digit_value}
use Rattle.std.specs.Str.Parse.{digits_value_after}
use Rattle.std.specs.Prelude.{Some, None, nat_lt, nat_le, ◌==◌, is_none, Ok, Err}
use Rattle.std.specs.List.{position_or_len, position, list_all, count_by, onto_first}
use Rattle.std.specs.Str.{IsUtf8}
use Rattle.std.proofs.lemmas.Grind.{pow_more}
use Rattle.std.proofs.lemmas.Bool.Decides.{nat_tests}
use Rattle.std.proofs.lemmas.List.Splits.{slice_split_first, slice_split_none, length-slice_split}
use Rattle.std.proofs.lemmas.List.Sums.{fails_before_first}
use Rattle.cz_base.specs.Text.{first_bad, is_name_byte, is_body_byte}
use Rattle.script_text.specs.declared.fault.Cause.TheVariants.{BadName, BadBody}
use Rattle.script_text.specs.Words.{words, words_left, is_blank, is_digit, is_line_byte}
use Rattle.script_text.specs.Reading.{name_in, body_in}
use Rattle.std.proofs.lemmas.Bool.{and_from, and_parts, and_right, cond_both, leb-true}
use Rattle.std.proofs.lemmas.List.{take_all, length-drop}
use Rattle.std.proofs.lemmas.Option.{cond_some}
use Rattle.cz_base.specs.declared.limits.TheConstants.{NAME_BYTES, BODY_BYTES}
use Rattle.script_text.proofs.LineLemmas.{chose-none}

-- the first word ends at the first blank
pub words-first : (line : List ℕ) (at : ℕ) → position is_blank line ≡ Some at → words line ≡ take at line ∷ words (drop (at + 1) line)
words-first line at found =
    let chosen = cond_some (nat_lt (position_or_len is_blank line) (length line)) (position_or_len is_blank line) at found in
    let within : position_or_len is_blank line < length line = grind (arith, nat_tests, chosen.0) in
    let cut = slice_split_first is_blank line 0 within in
    rw (← chosen.1) cut

-- a line without a blank is one word
pub words-one : (line : List ℕ) → position is_blank line ≡ None → words line ≡ line ∷ []
words-one line none =
    let chosen = chose-none (nat_lt (position_or_len is_blank line) (length line)) (position_or_len is_blank line) none in
    let past : length line ≤ position_or_len is_blank line = grind (arith, nat_tests, chosen) in
    slice_split_none is_blank line (λ k d within. fails_before_first is_blank line k d (omega arith))

pub words_left-first : (ended : Bool) (line : List ℕ) (at : ℕ) → ended ≡ false → position is_blank line ≡ Some at
    → words_left ended line ≡ take at line ∷ words_left ended (take (length line - (at + 1)) (drop (at + 1) line))
words_left-first true line at going found = cc
words_left-first false line at going found = rw (take_all (length line - (at + 1)) (drop (at + 1) line) (omega (arith, length-drop (at + 1) line))) (words-first line at found)

pub words_left-one : (ended : Bool) (line : List ℕ) → ended ≡ false → position is_blank line ≡ None → words_left ended line ≡ line ∷ []
words_left-one true line going none = cc
words_left-one false line going none = words-one line none

-- there is one word more than blanks
pub length-words_left : (ended : Bool) (line : List ℕ) → ended ≡ false → length (words_left ended line) ≡ count_by is_blank line + 1
length-words_left true line going = cc
length-words_left false line going = length-slice_split is_blank line

-- a word with a bad byte is no name, and no body
pub name_in-bad : (word : List ℕ) (at : ℕ) → first_bad is_name_byte word ≡ Some at → name_in word ≡ Err BadName
name_in-bad word at bad =
    ap (λ place. cond (nat_le 1 (length word) && nat_le (length word) NAME_BYTES && is_none place) (Ok word) (Err BadName)) bad
    ∙ ap (λ test. cond test (Ok word) (Err BadName)) (and_right (nat_le 1 (length word) && nat_le (length word) NAME_BYTES) false refl)

pub body_in-bad : (sign : ℕ) (bytes : List ℕ) (at : ℕ) → first_bad is_body_byte bytes ≡ Some at → body_in (sign ∷ bytes) ≡ Err BadBody
body_in-bad sign bytes at bad =
    ap (λ place. cond ((sign == 61) && nat_le (length bytes) BODY_BYTES && is_none place) (Ok bytes) (Err BadBody)) bad
    ∙ ap (λ test. cond test (Ok bytes) (Err BadBody)) (and_right ((sign == 61) && nat_le (length bytes) BODY_BYTES) false refl)

-- each byte of digits is a digit
pub digit_at : (digits : List ℕ) (i : ℕ) → list_all is_digit digits ≡ true → i < length digits → (48 ≤ get_or digits i 0) × (get_or digits i 0 ≤ 57)
digit_at [] i good within = absurd (omega arith)
digit_at (d ∷ ds) zero good within =
    let both = and_parts (is_digit d) (list_all is_digit ds) good in
    let range = and_parts (nat_le 48 d) (nat_le d 57) both.0 in
    (grind (arith, nat_tests, range.0), grind (arith, nat_tests, range.1))
digit_at (d ∷ ds) (suc i) good within =
    let both = and_parts (is_digit d) (list_all is_digit ds) good in
    digit_at ds i both.1 (omega arith)

-- one more digit is read
pub more_digits : (n i : ℕ) (digits : List ℕ) → i < length digits → 48 ≤ get_or digits i 0 → get_or digits i 0 ≤ 57
    → digits_value_after 10 n (drop i digits) ≡ digits_value_after 10 (n * 10 + (get_or digits i 0 - 48)) (drop (i + 1) digits)
more_digits n i digits within least most =
    let value : digit_value (get_or digits i 0) ≡ get_or digits i 0 - 48 = omega (arith, digit_value_digit (get_or digits i 0) (least, most)) in
    rw (add-one, drop-cons digits i 0) (ap (λ d. digits_value_after 10 (n * 10 + d) (drop (suc i) digits)) value)

-- a number of fewer than ten digits has room for one more
pub room_for_digit : (n i : ℕ) → n < 10 ^ i → i < 10 → n * 10 + 9 < 10 ^ 10
room_for_digit n i small few =
    let next : 10 ^ (i + 1) ≤ 10 ^ 10 = pow-le-pow_right (lit< tt) {i = i + 1} {j = 10} (omega arith) in
    omega (arith, pow_more 10 i)

pub small_more : (n i d : ℕ) → n < 10 ^ i → d ≤ 57 → n * 10 + (d - 48) < 10 ^ (i + 1)
small_more n i d small most = omega (arith, pow_more 10 i)

pub body_in-bad_word : (word : List ℕ) (at : ℕ) → 1 ≤ length word → first_bad is_body_byte (take (length word - 1) (drop 1 word)) ≡ Some at → body_in word ≡ Err BadBody
body_in-bad_word [] at some bad = absurd (omega arith)
body_in-bad_word (sign ∷ bytes) at some bad = body_in-bad sign bytes at (ap (λ text. first_bad is_body_byte text) (sym (take_all (length (sign ∷ bytes) - 1) (drop 1 (sign ∷ bytes)) (omega (arith, length-drop 1 (sign ∷ bytes))))) ∙ bad)

-- the bytes of each word are those of its line

pub all_in_words : (line : List ℕ) → list_all is_line_byte line ≡ true → list_all (λ word. list_all is_line_byte word) (words line) ≡ true
all_in_words [] good = refl
all_in_words (b ∷ bs) good =
    let parts = and_parts (is_line_byte b) (list_all is_line_byte bs) good in
    let rest : list_all (λ word. list_all is_line_byte word) (words bs) ≡ true = all_in_words bs parts.1 in
    cond_both (is_blank b) ([] ∷ words bs) (onto_first b (words bs)) (λ ws. list_all (λ word. list_all is_line_byte word) ws ≡ true) (λ _. rest) (λ _. onto_good (words bs) parts.0 rest)
  where
    onto_good : (ws : List (List ℕ)) → is_line_byte b ≡ true → list_all (λ word. list_all is_line_byte word) ws ≡ true → list_all (λ word. list_all is_line_byte word) (onto_first b ws) ≡ true
    onto_good [] here all = ap (λ t. (t && true) && true) here
    onto_good (w ∷ ws) here all = let both = and_parts (list_all is_line_byte w) (list_all (λ word. list_all is_line_byte word) ws) all in
        and_from (is_line_byte b && list_all is_line_byte w) (list_all (λ word. list_all is_line_byte word) ws) (and_from (is_line_byte b) (list_all is_line_byte w) here both.0) both.1

line_byte_small : (b : ℕ) → is_line_byte b ≡ true → b < 128
line_byte_small b good = let small = and_parts (nat_le 32 b) (nat_le b 126) good in omega (arith, leb-true b 126 small.1)

bytes_small : (word : List ℕ) (i : ℕ) → list_all is_line_byte word ≡ true → get_or word i 0 < 128
bytes_small [] i good = omega arith
bytes_small (b ∷ bs) zero good = line_byte_small b (and_parts (is_line_byte b) (list_all is_line_byte bs) good).0
bytes_small (b ∷ bs) (suc i) good = bytes_small bs i (and_parts (is_line_byte b) (list_all is_line_byte bs) good).1

-- so a word is a text
pub word_is_text : (word : List ℕ) → list_all is_line_byte word ≡ true → IsUtf8 word
word_is_text word good = IsUtf8-from_ascii word (λ i. bytes_small word i good)

pub first_word_good : (ws : List (List ℕ)) (w : List ℕ) (more : List (List ℕ)) → ws ≡ w ∷ more → list_all (λ word. list_all is_line_byte word) ws ≡ true → list_all is_line_byte w ≡ true
first_word_good ws w more is good = (and_parts (list_all is_line_byte w) (list_all (λ word. list_all is_line_byte word) more) (sym (ap (list_all (λ word. list_all is_line_byte word)) is) ∙ good)).0
