-- The words of a line, read from left to right up to the first that is bad.
use Rattle.std.specs.Prelude.{◌≡◌, ◌==◌, ℕ, ◌-◌, ◌&&◌, nat_le, nat_lt, List, [], ◌∷◌, drop, slice_index, if◌then◌else◌, Result, Ok, Err}
use Rattle.std.specs.List.{list_all}
use Rattle.script_text.specs.declared.fault.Cause.{Cause}
use Rattle.script_text.specs.declared.fault.Cause.TheVariants.{WrongWords, BadDatacentre, BadNumber, OutOfRange, BadName, BadBody}
use Rattle.script_text.specs.declared.fault.ReadFault.{ReadFault}
use Rattle.script_text.specs.declared.fault.ReadFault.TheVariants as faults
use Rattle.script_text.specs.Words.{is_number, number_of, is_datacentre, is_name, is_body}

-- the greatest number of 32 bits, in which numbers of a script are kept
abbrev pub greatest_number : ℕ
greatest_number = 4294967295

-- what a first step read goes on to a second; a cause ends both
infixl 10 ◌>>=◌
abbrev pub ◌>>=◌ : {A B E : Type 0} → Result A E → (A → Result B E) → Result B E
(Ok x) >>= f = f x
(Err e) >>= f = Err e

-- what a call on one line answered is what the definition gives, unless memory ran out
abbrev pub Fails : {Y : Type 0} → ReadFault → Result Y Cause → Type 0
Fails faults.NoMemory read = Unit {0}
Fails (faults.Bad cause) read = read ≡ Err cause

abbrev pub Gives : {X Y : Type 0} → (X → Y) → Result X ReadFault → Result Y Cause → Type 0
Gives view (Ok x) read = read ≡ Ok (view x)
Gives view (Err fault) read = Fails fault read

-- what a call that takes no memory answered is just what the definition gives
abbrev pub Reads : {X Y : Type 0} → (X → Y) → Result X Cause → Result Y Cause → Type 0
Reads view (Ok x) read = read ≡ Ok (view x)
Reads view (Err cause) read = read ≡ Err cause

-- A word, and the words after it.
abbrev pub number_in : ℕ → ℕ → List ℕ → Result ℕ Cause
number_in least most word = if is_number word then (if nat_le least (number_of word) && nat_le (number_of word) most then Ok (number_of word) else Err OutOfRange) else Err BadNumber

unfoldable pub number_at : ℕ → ℕ → List (List ℕ) → Result (ℕ × List (List ℕ)) Cause
number_at least most [] = Err WrongWords
number_at least most (word ∷ more) = do
  n ← number_in least most word
  Ok (n, more)

-- a number below a limit
unfoldable pub number_below_at : ℕ → List (List ℕ) → Result (ℕ × List (List ℕ)) Cause
number_below_at limit left = do
  n ← number_at 0 greatest_number left
  if nat_lt n.0 limit then Ok n else Err OutOfRange

unfoldable pub datacentre_at : ℕ → List (List ℕ) → Result (ℕ × List (List ℕ)) Cause
datacentre_at dcs [] = Err WrongWords
datacentre_at dcs (word ∷ more) = if is_datacentre dcs word then Ok (slice_index word 0 - 65, more) else Err BadDatacentre

-- a datacentre other than the first
unfoldable pub other_datacentre_at : ℕ → ℕ → List (List ℕ) → Result (ℕ × List (List ℕ)) Cause
other_datacentre_at dcs first left = do
  dc ← datacentre_at dcs left
  if dc.0 == first then Err BadDatacentre else Ok dc

abbrev pub body_in : List ℕ → Result (List ℕ) Cause
body_in word = if is_body word then Ok (drop 1 word) else Err BadBody

unfoldable pub body_at : List (List ℕ) → Result (List ℕ × List (List ℕ)) Cause
body_at [] = Err WrongWords
body_at (word ∷ more) = do
  body ← body_in word
  Ok (body, more)

abbrev pub name_in : List ℕ → Result (List ℕ) Cause
name_in word = if is_name word then Ok word else Err BadName

unfoldable pub name_at : List (List ℕ) → Result (List ℕ × List (List ℕ)) Cause
name_at [] = Err WrongWords
name_at (word ∷ more) = do
  name ← name_in word
  Ok (name, more)

-- the words to the end of the line, each a name
unfoldable pub names_in : List (List ℕ) → Result (List (List ℕ)) Cause
names_in more = if list_all is_name more then Ok more else Err BadName
