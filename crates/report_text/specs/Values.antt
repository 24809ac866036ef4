-- The words of single values.
use Rattle.std.specs.Prelude.{ℕ, ◌+◌, List, [], ◌∷◌, ◌++◌, codes}
use Rattle.std.specs.List.{join_by, flat_map}
use Rattle.std.specs.Fmt.{decimal}
use Rattle.causal_deps.specs.declared.record.Kind.{Kind}
use Rattle.causal_deps.specs.declared.record.Kind.TheVariants.{Append, Put, Del}
use Rattle.causal_deps.specs.declared.record.Place.{Place}

-- a datacentre's letter: `A` is the first
abbrev pub letter : ℕ → List ℕ
letter d = (65 + d) ∷ []

-- a record's name: `H:TOID`
abbrev pub name_word : ℕ → ℕ → List ℕ
name_word h t = letter h ++ codes ":" ++ decimal t

-- a draft's name: `s.k`, its session and index
abbrev pub draft_word : ℕ → ℕ → List ℕ
draft_word s k = decimal s ++ codes "." ++ decimal k

-- counts, with commas
abbrev pub counts_word : List ℕ → List ℕ
counts_word counts = join_by decimal (codes ",") counts

-- a table: its rows, with semicolons
abbrev pub table_word : List (List ℕ) → List ℕ
table_word table = join_by counts_word (codes ";") table

abbrev pub body_word : List ℕ → List ℕ
body_word body = codes "=" ++ body

abbrev pub kind_word : Kind → List ℕ
kind_word Append = codes "append"
kind_word Put = codes "put"
kind_word Del = codes "del"

abbrev pub number_words : ℕ → List (List ℕ)
number_words n = decimal n ∷ []

abbrev pub numbers_words : List ℕ → List (List ℕ)
numbers_words ns = flat_map number_words ns

abbrev pub name_words : ℕ × ℕ → List (List ℕ)
name_words name = name_word name.0 name.1 ∷ []

abbrev pub names_words : List (ℕ × ℕ) → List (List ℕ)
names_words names = flat_map name_words names

-- a position, and the name of the record there
abbrev pub place_words : Place → List (List ℕ)
place_words place = decimal place.lid ∷ name_word place.host place.toid ∷ []

abbrev pub places_words : List Place → List (List ℕ)
places_words places = flat_map place_words places
