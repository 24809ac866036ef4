-- The words of a line, and what a word may spell.
use Rattle.std.specs.Prelude.{◌==◌, ◌&&◌, ◌||◌, ◌+◌, ℕ, Bool, true, false, not, nat_le, nat_lt, is_none, List, [], ◌∷◌, length, slice_index}
use Rattle.std.specs.List.{slice_split, list_all}
use Rattle.std.specs.Str.Parse.{digits_value}
use Rattle.cz_base.specs.declared.limits.TheConstants.{DATACENTRES, NAME_BYTES, BODY_BYTES}
use Rattle.cz_base.specs.Text.{first_bad, is_name_byte, is_body_byte}

-- a byte that a line may have: printable, or a blank
abbrev pub is_line_byte : ℕ → Bool
is_line_byte b = nat_le 32 b && nat_le b 126

abbrev pub is_blank : ℕ → Bool
is_blank b = b == 32

-- the words of a line: the parts between its blanks
abbrev pub words : List ℕ → List (List ℕ)
words line = slice_split is_blank line

-- the words that are left of a line, if any are
abbrev pub words_left : Bool → List ℕ → List (List ℕ)
words_left true rest = []
words_left false rest = words rest

-- two blanks side by side, or one at an end, have an empty word beside them
abbrev pub is_empty_word : List ℕ → Bool
is_empty_word [] = true
is_empty_word (b ∷ bs) = false

abbrev pub is_digit : ℕ → Bool
is_digit b = nat_le 48 b && nat_le b 57

-- `0`, or at most ten digits of which the first is not 0
abbrev pub is_number : List ℕ → Bool
is_number word = list_all is_digit word && nat_le 1 (length word) && nat_le (length word) 10 && (nat_le (length word) 1 || not (slice_index word 0 == 48))

-- the number that digits spell
abbrev pub number_of : List ℕ → ℕ
number_of word = digits_value 10 word

-- one letter, that of one of so many datacentres, where the log may have so many
abbrev pub is_datacentre : ℕ → List ℕ → Bool
is_datacentre dcs [] = false
is_datacentre dcs (letter ∷ []) = nat_le 65 letter && nat_lt letter (65 + dcs) && nat_lt letter (65 + DATACENTRES)
is_datacentre dcs (letter ∷ next ∷ more) = false

-- a key or a tag
abbrev pub is_name : List ℕ → Bool
is_name word = nat_le 1 (length word) && nat_le (length word) NAME_BYTES && is_none (first_bad is_name_byte word)

-- `=`, and then a body
abbrev pub is_body : List ℕ → Bool
is_body [] = false
is_body (sign ∷ bytes) = (sign == 61) && nat_le (length bytes) BODY_BYTES && is_none (first_bad is_body_byte bytes)
