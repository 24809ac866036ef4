-- Lines of words, and the bytes that they are written as.
use Rattle.std.specs.Prelude.{ℕ, List, [], ◌∷◌, ◌++◌, codes}
use Rattle.std.specs.List.{flat_map}

-- what ends a line
abbrev pub line_feed : List ℕ
line_feed = 10 ∷ []

abbrev pub with_space : List ℕ → List ℕ
with_space word = codes " " ++ word

-- words with a space before each
abbrev pub spaced : List (List ℕ) → List ℕ
spaced words = flat_map with_space words

-- words with one space between them
abbrev pub words_text : List (List ℕ) → List ℕ
words_text [] = []
words_text (word ∷ more) = word ++ spaced more

-- a line of words
abbrev pub line_text : List (List ℕ) → List ℕ
line_text words = words_text words ++ line_feed

-- lines one after another
abbrev pub lines_text : List (List (List ℕ)) → List ℕ
lines_text lines = flat_map line_text lines
