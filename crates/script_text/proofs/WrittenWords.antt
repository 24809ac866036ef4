-- What is written for a number, a datacentre, a body or a name is read as just that.
-- By the tests of `Reading`; that of a number by its digits.
-- The theorems are those whose names end in `reads` or `read`; `full` says that no word is empty.
use Rattle.std.proofs.Common.{◌≡◌, ◌<◌, ◌≤◌, ◌+◌, ◌-◌, ℕ, zero, suc, List, [], ◌∷◌, length, refl, ap, ◌∙◌, arith, Bool, true, false, cond, not, ◌&&◌, ◌||◌, nat_eq, All}
use Rattle.std.specs.Prelude.{◌≢◌, nat_le, nat_lt, Ok, Err, Result, Option, is_none, slice_index}
use Rattle.std.specs.List.{list_all, list_any}
use Rattle.std.specs.Fmt.{decimal}
use Rattle.std.proofs.lemmas.Bool.Decides.{nat_tests}
use Rattle.std.proofs.lemmas.List.Elements.{All-head, All-tail}
use Rattle.std.proofs.lemmas.Fmt.{digits_decimal, digits_value-decimal, decimal_nonempty, length-decimal-le, first_decimal}
use Rattle.cz_base.specs.Text.{IsName, IsBody, first_bad, is_name_byte, is_body_byte}
use Rattle.script_text.specs.declared.fault.Cause.{Cause}
use Rattle.script_text.specs.declared.fault.Cause.TheVariants.{BadDatacentre, BadNumber, OutOfRange, BadName, BadBody}
use Rattle.script_text.specs.Words.{is_digit, is_number, number_of, is_datacentre, is_name, is_body, is_empty_word}
use Rattle.script_text.specs.Reading.{◌>>=◌, number_in, number_at, number_below_at, datacentre_at, other_datacentre_at, body_at, name_at, names_in, greatest_number}
use Rattle.script_text.specs.Spelled.{letter}
use Rattle.std.proofs.lemmas.Bool.{and_from, or_left, or_right, cond-true, cond-false}
use Rattle.cz_base.specs.declared.limits.TheConstants.{DATACENTRES, SESSIONS, NAME_BYTES, BODY_BYTES}
use Rattle.script_text.proofs.Spelling.{own}

number_form : (word : List ℕ) → list_all is_digit word ≡ true → 0 < length word → length word ≤ 10 → 48 < slice_index word 0 → is_number word ≡ true
number_form word digits some short first =
    let least : nat_le 1 (length word) ≡ true = grind (arith, nat_tests) in
    let most : nat_le (length word) 10 ≡ true = grind (arith, nat_tests) in
    let other : nat_eq (slice_index word 0) 48 ≡ false = grind (arith, nat_tests) in
    and_from (list_all is_digit word && nat_le 1 (length word) && nat_le (length word) 10) (nat_le (length word) 1 || not (nat_eq (slice_index word 0) 48))
    (and_from (list_all is_digit word && nat_le 1 (length word)) (nat_le (length word) 10) (and_from (list_all is_digit word) (nat_le 1 (length word)) digits least) most)
    (or_right (nat_le (length word) 1) (not (nat_eq (slice_index word 0) 48)) (ap (λ (t : Bool). not t) other))

number_reads : (least most n : ℕ) (word : List ℕ) (more : List (List ℕ)) → is_number word ≡ true → number_of word ≡ n → least ≤ n → n ≤ most → number_at least most (word ∷ more) ≡ Ok (n, more)
unfolding number_at
number_reads least most n word more form value low high =
    let from : nat_le least (number_of word) ≡ true = grind (arith, nat_tests, value, low) in
    let upto : nat_le (number_of word) most ≡ true = grind (arith, nat_tests, value, high) in
    let range = and_from (nat_le least (number_of word)) (nat_le (number_of word) most) from upto in
    let in_range = cond-true (nat_le least (number_of word) && nat_le (number_of word) most) (Ok (number_of word)) (Err OutOfRange) range in
    let read : number_in least most word ≡ Ok n
    = cond-true (is_number word) (cond (nat_le least (number_of word) && nat_le (number_of word) most) (Ok (number_of word)) (Err OutOfRange)) (Err BadNumber) form
    ∙ in_range ∙ ap (λ (m : ℕ). Ok m) value in
    ap (λ (r : Result ℕ Cause). r >>= λ m. Ok (m, more)) read

short_form : (word : List ℕ) → list_all is_digit word ≡ true → 0 < length word → length word ≤ 1 → is_number word ≡ true
short_form word digits some short =
    let least : nat_le 1 (length word) ≡ true = grind (arith, nat_tests) in
    let most : nat_le (length word) 10 ≡ true = grind (arith, nat_tests) in
    let one : nat_le (length word) 1 ≡ true = grind (arith, nat_tests) in
    and_from (list_all is_digit word && nat_le 1 (length word) && nat_le (length word) 10) (nat_le (length word) 1 || not (nat_eq (slice_index word 0) 48))
    (and_from (list_all is_digit word && nat_le 1 (length word)) (nat_le (length word) 10) (and_from (list_all is_digit word) (nat_le 1 (length word)) digits least) most)
    (or_left (nat_le (length word) 1) (not (nat_eq (slice_index word 0) 48)) one)

decimal_form : (n : ℕ) → n < 4294967296 → is_number (decimal n) ≡ true
decimal_form zero small = short_form (decimal zero) (digits_decimal own zero (omega arith)) (decimal_nonempty zero (omega arith)) (length-decimal-le 1 zero (omega arith) (omega arith) (omega arith))
decimal_form (suc n) small =
    number_form (decimal (suc n)) (digits_decimal own (suc n) (omega (arith, small))) (decimal_nonempty (suc n) (omega (arith, small)))
    (length-decimal-le 10 (suc n) (omega arith) (omega (arith, small)) (omega (arith, small))) (first_decimal (suc n) (omega arith) (omega (arith, small)))

-- a number of a range is read from what is written for it
pub decimal_reads : (least most n : ℕ) (more : List (List ℕ)) → least ≤ n → n ≤ most → most < 4294967296 → number_at least most (decimal n ∷ more) ≡ Ok (n, more)
decimal_reads least most n more low high small =
    number_reads least most n (decimal n) more (decimal_form n (omega (arith, high, small))) (digits_value-decimal own n (omega (arith, high, small))) low high

-- and a number below a limit
pub below_reads : (limit n : ℕ) (more : List (List ℕ)) → n < limit → limit ≤ SESSIONS → number_below_at limit (decimal n ∷ more) ≡ Ok (n, more)
unfolding number_below_at
below_reads limit n more below few =
    let test : nat_lt n limit ≡ true = grind (arith, nat_tests) in
    rw (decimal_reads 0 greatest_number n more (omega arith) (omega (arith, below, few)) (omega arith)) (cond-true (nat_lt n limit) (Ok (n, more)) (Err OutOfRange) test)

letter_form : (dcs dc : ℕ) → dc < dcs → dcs ≤ DATACENTRES → is_datacentre dcs (letter dc) ≡ true
letter_form dcs dc within few =
    let low : nat_le 65 (65 + dc) ≡ true = grind (arith, nat_tests) in
    let high : nat_lt (65 + dc) (65 + dcs) ≡ true = grind (arith, nat_tests) in
    let top : nat_lt (65 + dc) (65 + DATACENTRES) ≡ true = grind (arith, nat_tests) in
    and_from (nat_le 65 (65 + dc) && nat_lt (65 + dc) (65 + dcs)) (nat_lt (65 + dc) (65 + DATACENTRES)) (and_from (nat_le 65 (65 + dc)) (nat_lt (65 + dc) (65 + dcs)) low high) top

letter_reads : (dcs : ℕ) (word : List ℕ) (more : List (List ℕ)) → is_datacentre dcs word ≡ true → datacentre_at dcs (word ∷ more) ≡ Ok (slice_index word 0 - 65, more)
unfolding datacentre_at
letter_reads dcs word more form = cond-true (is_datacentre dcs word) (Ok (slice_index word 0 - 65, more)) (Err BadDatacentre) form

letter_value : (dc : ℕ) → slice_index (letter dc) 0 - 65 ≡ dc
letter_value dc = omega arith

pub datacentre_reads : (dcs dc : ℕ) (more : List (List ℕ)) → dc < dcs → dcs ≤ DATACENTRES → datacentre_at dcs (letter dc ∷ more) ≡ Ok (dc, more)
datacentre_reads dcs dc more within few = letter_reads dcs (letter dc) more (letter_form dcs dc within few) ∙ ap (λ (k : ℕ). Ok (k, more)) (letter_value dc)

differ : (a b : ℕ) → b ≢ a → nat_eq a b ≡ false
differ a b apart = grind (arith, nat_tests)

pub other_reads : (dcs first dc : ℕ) (more : List (List ℕ)) → dc < dcs → dcs ≤ DATACENTRES → first ≢ dc → other_datacentre_at dcs first (letter dc ∷ more) ≡ Ok (dc, more)
unfolding other_datacentre_at
other_reads dcs first dc more within few apart =
    rw (datacentre_reads dcs dc more within few) (cond-false (nat_eq dc first) (Err BadDatacentre) (Ok (dc, more)) (differ dc first apart))

body_form : (body : List ℕ) → IsBody body → is_body (61 ∷ body) ≡ true
body_form body fits =
    let short : nat_le (length body) BODY_BYTES ≡ true = grind (arith, nat_tests, fits.short) in
    and_from (nat_le (length body) BODY_BYTES) (is_none (first_bad is_body_byte body)) short (ap (λ (o : Option ℕ). is_none o) fits.allowed)

pub body_reads : (body : List ℕ) (more : List (List ℕ)) → IsBody body → body_at ((61 ∷ body) ∷ more) ≡ Ok (body, more)
unfolding body_at
body_reads body more fits =
    ap (λ (r : Result (List ℕ) Cause). r >>= λ bytes. Ok (bytes, more)) (cond-true (is_body (61 ∷ body)) (Ok body) (Err BadBody) (body_form body fits))

name_form : (word : List ℕ) → IsName word → is_name word ≡ true
name_form word fits =
    let least : nat_le 1 (length word) ≡ true = grind (arith, nat_tests, fits.not_empty) in
    let most : nat_le (length word) NAME_BYTES ≡ true = grind (arith, nat_tests, fits.short) in
    and_from (nat_le 1 (length word) && nat_le (length word) NAME_BYTES) (is_none (first_bad is_name_byte word))
    (and_from (nat_le 1 (length word)) (nat_le (length word) NAME_BYTES) least most) (ap (λ (o : Option ℕ). is_none o) fits.allowed)

pub name_reads : (word : List ℕ) (more : List (List ℕ)) → IsName word → name_at (word ∷ more) ≡ Ok (word, more)
unfolding name_at
name_reads word more fits =
    ap (λ (r : Result (List ℕ) Cause). r >>= λ name. Ok (name, more)) (cond-true (is_name word) (Ok word) (Err BadName) (name_form word fits))

names_form : (tags : List (List ℕ)) → All IsName tags → list_all is_name tags ≡ true
names_form [] all = refl
names_form (tag ∷ more) all = and_from (is_name tag) (list_all is_name more) (name_form tag (All-head IsName tag more all)) (names_form more (All-tail IsName tag more all))

pub names_read : (tags : List (List ℕ)) → All IsName tags → names_in tags ≡ Ok tags
unfolding names_in
names_read tags all = cond-true (list_all is_name tags) (Ok tags) (Err BadName) (names_form tags all)

-- a word that is not empty, before others
pub full : (word : List ℕ) (more : List (List ℕ)) → 0 < length word → list_any is_empty_word more ≡ false → list_any is_empty_word (word ∷ more) ≡ false
full [] more some rest = absurd (omega arith)
full (b ∷ bs) more some rest = rest

pub full_decimal : (n : ℕ) (more : List (List ℕ)) → n < 4294967296 → list_any is_empty_word more ≡ false → list_any is_empty_word (decimal n ∷ more) ≡ false
full_decimal n more small rest = full (decimal n) more (decimal_nonempty n (omega arith)) rest

pub full_names : (tags : List (List ℕ)) → All IsName tags → list_any is_empty_word tags ≡ false
full_names [] all = refl
full_names (tag ∷ more) all = full tag more (omega (arith, (All-head IsName tag more all).not_empty)) (full_names more (All-tail IsName tag more all))
