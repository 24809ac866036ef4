-- A word that was read is what is written for its value.
-- By the tests of `Reading`; that of a number by its digits, of which the first is not 0.
-- The theorems are those whose names end in `spells` or `spell`.
use Rattle.std.proofs.Common.{◌≡◌, ◌<◌, ◌≤◌, ◌+◌, ◌-◌, ◌^◌, ℕ, List, [], ◌∷◌, length, ap, sym, subst, ◌∙◌, arith, true, false, not, ◌&&◌, ◌||◌, nat_eq, inl, inr, lit<, rules}
use Rattle.std.specs.Prelude.{◌≢◌, nat_le, nat_lt, Ok, is_none, drop, slice_index}
use Rattle.std.specs.List.{list_all}
use Rattle.std.specs.Fmt.{decimal}
use Rattle.std.proofs.lemmas.Bool.Decides.{nat_tests}
use Rattle.std.proofs.lemmas.Str.Parse.{IsNumeralModel, IsDigitsTest, numerals_by_value}
use Rattle.std.proofs.lemmas.Fmt.{decimal-digits_value}
use Rattle.cz_base.specs.Text.{first_bad, is_body_byte}
use Rattle.script_text.specs.Words.{is_digit, is_number, number_of, is_datacentre, is_name, is_body}
use Rattle.script_text.specs.Reading.{number_in, number_at, number_below_at, datacentre_at, other_datacentre_at, body_in, body_at, name_in, name_at, names_in, greatest_number}
use Rattle.script_text.specs.Spelled.{letter}
use Rattle.std.proofs.lemmas.Bool.{and_parts, or_cases}
use Rattle.std.proofs.lemmas.List.{nil_from_length}
use Rattle.cz_base.specs.declared.limits.TheConstants.{DATACENTRES, BODY_BYTES}
use Rattle.script_text.proofs.Going.{okay-same, bind_ok, guard_ok, pass_ok}

digits_test : IsDigitsTest (λ ds. list_all is_digit ds ≡ true)
digits_test = search rules

-- the digits of a number word are a numeral
pub own : IsNumeralModel (λ ds. list_all is_digit ds ≡ true) number_of
own = numerals_by_value (λ ds. list_all is_digit ds ≡ true) digits_test

le_one : (n : ℕ) → nat_le n 1 ≡ true → n ≤ 1
le_one n h = grind (arith, nat_tests)

not_48 : (b : ℕ) → not (nat_eq b 48) ≡ true → b ≡ 48 → ⊥
not_48 b h is = grind (arith, nat_tests)

lone_zero : (n b : ℕ) → (nat_le n 1 || not (nat_eq b 48)) ≡ true → 1 ≤ n → b ≡ 48 → n ≡ 1
lone_zero n b test some is =
    elim (or_cases (nat_le n 1) (not (nat_eq b 48)) test) [
      | inl few ↦ omega (arith, le_one n few)
      | inr other ↦ absurd (not_48 b other is)
    ]

-- a number word is what is written for its number
number_word : (word : List ℕ) → is_number word ≡ true → number_of word < 2 ^ 64 → decimal (number_of word) ≡ word
number_word word form small =
    let last = and_parts (list_all is_digit word && nat_le 1 (length word) && nat_le (length word) 10) (nat_le (length word) 1 || not (nat_eq (slice_index word 0) 48)) form in
    let third = and_parts (list_all is_digit word && nat_le 1 (length word)) (nat_le (length word) 10) last.0 in
    let second = and_parts (list_all is_digit word) (nat_le 1 (length word)) third.0 in
    let some : 1 ≤ length word = grind (arith, nat_tests, second.1) in
    let lone : slice_index word 0 ≡ 48 → length word ≡ 1 = λ h. lone_zero (length word) (slice_index word 0) last.1 some h in
    decimal-digits_value own word second.0 (omega arith) lone small

pub record SpellsNumber (least most : ℕ) (left : List (List ℕ)) (x : ℕ × List (List ℕ)) : Type 0 where
  pub word : left ≡ decimal x.0 ∷ x.1
  pub low : least ≤ x.0
  pub high : x.0 ≤ most

pub number_spells : (least most : ℕ) (left : List (List ℕ)) (x : ℕ × List (List ℕ)) → most < 2 ^ 64 → number_at least most left ≡ Ok x → SpellsNumber least most left x
unfolding number_at
number_spells least most [] x fits same = cc
number_spells least most (word ∷ more) x fits same =
    let bound = bind_ok (number_in least most word) (λ n. Ok (n, more)) x same in
    let form = pass_ok (is_number word) _ _ bound.0 bound.1.0 in
    let range = pass_ok (nat_le least (number_of word) && nat_le (number_of word) most) _ _ bound.0 form.1 in
    let both = and_parts (nat_le least (number_of word)) (nat_le (number_of word) most) range.0 in
    let value : number_of word ≡ bound.0 = okay-same (number_of word) bound.0 range.1 in
    let pair : (bound.0, more) ≡ x = okay-same (bound.0, more) x bound.1.1 in
    let low : least ≤ number_of word = grind (arith, nat_tests, both.0) in
    let high : number_of word ≤ most = grind (arith, nat_tests, both.1) in
    let spelled = number_word word form.0 (omega arith) in
    let made : SpellsNumber least most (word ∷ more) (bound.0, more) = record {
      word = ap (λ (w : List ℕ). w ∷ more) (sym spelled ∙ ap (λ (n : ℕ). decimal n) value);
      low = omega (arith, low, value);
      high = omega (arith, high, value);
    } in
    subst (λ (p : ℕ × List (List ℕ)). SpellsNumber least most (word ∷ more) p) pair made

letter_word : (dcs : ℕ) (word : List ℕ) → is_datacentre dcs word ≡ true → word ≡ letter (slice_index word 0 - 65)
letter_word dcs [] h = cc
letter_word dcs (b ∷ []) h =
    let both = and_parts (nat_le 65 b && nat_lt b (65 + dcs)) (nat_lt b (65 + DATACENTRES)) h in
    let first = and_parts (nat_le 65 b) (nat_lt b (65 + dcs)) both.0 in
    let low : 65 ≤ b = grind (arith, nat_tests, first.0) in
    let same : b ≡ 65 + (b - 65) = omega (arith, low) in
    ap (λ (n : ℕ). n ∷ []) same
letter_word dcs (b ∷ next ∷ more) h = cc

pub datacentre_spells : (dcs : ℕ) (left : List (List ℕ)) (x : ℕ × List (List ℕ)) → datacentre_at dcs left ≡ Ok x → left ≡ letter x.0 ∷ x.1
unfolding datacentre_at
datacentre_spells dcs [] x same = cc
datacentre_spells dcs (word ∷ more) x same =
    let form = pass_ok (is_datacentre dcs word) _ _ x same in
    let pair : (slice_index word 0 - 65, more) ≡ x = okay-same (slice_index word 0 - 65, more) x form.1 in
    subst (λ (p : ℕ × List (List ℕ)). word ∷ more ≡ letter p.0 ∷ p.1) pair (ap (λ (w : List ℕ). w ∷ more) (letter_word dcs word form.0))

datacentre_below : (dcs : ℕ) (word : List ℕ) → is_datacentre dcs word ≡ true → slice_index word 0 - 65 < dcs
datacentre_below dcs [] h = cc
datacentre_below dcs (letter ∷ []) h =
    let both = and_parts (nat_le 65 letter && nat_lt letter (65 + dcs)) (nat_lt letter (65 + DATACENTRES)) h in
    let first = and_parts (nat_le 65 letter) (nat_lt letter (65 + dcs)) both.0 in
    grind (arith, nat_tests, first.0, first.1)
datacentre_below dcs (letter ∷ next ∷ more) h = cc

pub datacentre_takes : (dcs : ℕ) (left : List (List ℕ)) (x : ℕ × List (List ℕ)) → datacentre_at dcs left ≡ Ok x → x.0 < dcs
unfolding datacentre_at
datacentre_takes dcs [] x same = cc
datacentre_takes dcs (word ∷ more) x same =
    let form = pass_ok (is_datacentre dcs word) _ _ x same in
    let pair : (slice_index word 0 - 65, more) ≡ x = cc (form.1) in
    let first : slice_index word 0 - 65 ≡ x.0 = ap (λ (p : ℕ × List (List ℕ)). p.0) pair in
    omega (arith, datacentre_below dcs word form.0, first)

body_word : (word : List ℕ) → is_body word ≡ true → word ≡ 61 ∷ drop 1 word
body_word [] h = cc
body_word (sign ∷ bytes) h =
    let both = and_parts ((nat_eq sign 61) && nat_le (length bytes) BODY_BYTES) (is_none (first_bad is_body_byte bytes)) h in
    let first = and_parts (nat_eq sign 61) (nat_le (length bytes) BODY_BYTES) both.0 in
    let same : sign ≡ 61 = grind (arith, nat_tests, first.0) in
    ap (λ (s : ℕ). s ∷ bytes) same

pub body_spells : (left : List (List ℕ)) (x : List ℕ × List (List ℕ)) → body_at left ≡ Ok x → left ≡ (61 ∷ x.0) ∷ x.1
unfolding body_at
body_spells [] x same = cc
body_spells (word ∷ more) x same =
    let bound = bind_ok (body_in word) (λ body. Ok (body, more)) x same in
    let form = pass_ok (is_body word) _ _ bound.0 bound.1.0 in
    let value : drop 1 word ≡ bound.0 = okay-same (drop 1 word) bound.0 form.1 in
    let pair : (bound.0, more) ≡ x = okay-same (bound.0, more) x bound.1.1 in
    subst (λ (p : List ℕ × List (List ℕ)). word ∷ more ≡ (61 ∷ p.0) ∷ p.1) pair
    (ap (λ (w : List ℕ). w ∷ more) (body_word word form.0 ∙ ap (λ (bytes : List ℕ). 61 ∷ bytes) value))

pub name_spells : (left : List (List ℕ)) (x : List ℕ × List (List ℕ)) → name_at left ≡ Ok x → left ≡ x.0 ∷ x.1
unfolding name_at
name_spells [] x same = cc
name_spells (word ∷ more) x same =
    let bound = bind_ok (name_in word) (λ name. Ok (name, more)) x same in
    let form = pass_ok (is_name word) _ _ bound.0 bound.1.0 in
    let value : word ≡ bound.0 = okay-same word bound.0 form.1 in
    let pair : (bound.0, more) ≡ x = okay-same (bound.0, more) x bound.1.1 in
    subst (λ (p : List ℕ × List (List ℕ)). word ∷ more ≡ p.0 ∷ p.1) pair (ap (λ (w : List ℕ). w ∷ more) value)

-- a line of one name behind its first word
pub one_name : (left : List (List ℕ)) (x : List ℕ × List (List ℕ)) → length left ≤ 1 → name_at left ≡ Ok x → left ≡ x.0 ∷ []
one_name left x few same =
    let word : left ≡ x.0 ∷ x.1 = name_spells left x same in
    let none : length x.1 ≡ 0 = omega (arith, ap (λ (ws : List (List ℕ)). length ws) word) in
    word ∙ ap (λ (ws : List (List ℕ)). x.0 ∷ ws) (nil_from_length x.1 none)

pub names_spell : (left tags : List (List ℕ)) → names_in left ≡ Ok tags → left ≡ tags
unfolding names_in
names_spell left tags same =
    let form = pass_ok (list_all is_name left) _ _ tags same in
    okay-same left tags form.1

-- a line of one number behind its first word
pub one_number : (least most : ℕ) (left : List (List ℕ)) (x : ℕ × List (List ℕ)) → most < 2 ^ 64 → length left ≤ 1 → number_at least most left ≡ Ok x → left ≡ decimal x.0 ∷ []
one_number least most left x fits few same =
    let n = number_spells least most left x fits same in
    let none : length x.1 ≡ 0 = omega (arith, ap (λ (ws : List (List ℕ)). length ws) n.word) in
    n.word ∙ ap (λ (ws : List (List ℕ)). decimal x.0 ∷ ws) (nil_from_length x.1 none)

-- a number below a limit
pub below_spells : (limit : ℕ) (left : List (List ℕ)) (x : ℕ × List (List ℕ)) → number_below_at limit left ≡ Ok x → (left ≡ decimal x.0 ∷ x.1) × (x.0 < limit)
unfolding number_below_at
below_spells limit left x same =
    let read = bind_ok (number_at 0 greatest_number left) _ x same in
    let test = pass_ok (nat_lt read.0.0 limit) _ _ x read.1.1 in
    let is : read.0 ≡ x = okay-same read.0 x test.1 in
    let n = number_spells 0 greatest_number left read.0 (lit< tt) read.1.0 in
    let small : read.0.0 < limit = grind (arith, nat_tests, test.0) in
    subst (λ (p : ℕ × List (List ℕ)). (left ≡ decimal p.0 ∷ p.1) × (p.0 < limit)) is (n.word, small)

differs : (a b : ℕ) → nat_eq a b ≡ false → b ≢ a
differs a b test same = grind (arith, nat_tests)

-- a datacentre other than the first
pub other_spells : (dcs first : ℕ) (left : List (List ℕ)) (x : ℕ × List (List ℕ)) → other_datacentre_at dcs first left ≡ Ok x → (left ≡ letter x.0 ∷ x.1) × ((x.0 < dcs) × (first ≢ x.0))
unfolding other_datacentre_at
other_spells dcs first left x same =
    let read = bind_ok (datacentre_at dcs left) _ x same in
    let test = guard_ok (nat_eq read.0.0 first) _ _ x read.1.1 in
    let is : read.0 ≡ x = okay-same read.0 x test.1 in
    subst (λ (p : ℕ × List (List ℕ)). (left ≡ letter p.0 ∷ p.1) × ((p.0 < dcs) × (first ≢ p.0))) is
    (datacentre_spells dcs left read.0 read.1.0, (datacentre_takes dcs left read.0 read.1.0, differs read.0.0 first test.0))
