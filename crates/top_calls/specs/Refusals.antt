-- What is written of a script that is refused.
use Rattle.std.specs.Prelude.{ℕ, List, ◌++◌, codes}
use Rattle.std.specs.Fmt.{decimal}
use Rattle.script_text.specs.declared.fault.Cause.{Cause}
use Rattle.script_text.specs.declared.fault.Cause.TheVariants.{BadByte, BadSpacing, AfterEnd, UnknownWord, OutOfPlace, WrongWords, BadDatacentre, BadNumber, OutOfRange, BadName, BadBody, GivenTwice, TooMany, TooShort}

-- what is said of a bad line
abbrev pub cause_text : Cause → List ℕ
cause_text BadByte = codes "bad byte"
cause_text BadSpacing = codes "bad spacing"
cause_text AfterEnd = codes "after end"
cause_text UnknownWord = codes "unknown word"
cause_text OutOfPlace = codes "out of place"
cause_text WrongWords = codes "wrong number of words"
cause_text BadDatacentre = codes "bad datacentre"
cause_text BadNumber = codes "bad number"
cause_text OutOfRange = codes "out of range"
cause_text BadName = codes "bad name"
cause_text BadBody = codes "bad body"
cause_text GivenTwice = codes "given twice"
cause_text TooMany = codes "too many"
cause_text TooShort = codes "too short"

-- the refusal of a script by its first bad line
abbrev pub bad_line_text : ℕ → Cause → List ℕ
bad_line_text line cause = codes "refused: line " ++ decimal line ++ codes ": " ++ cause_text cause
