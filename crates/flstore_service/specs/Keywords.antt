-- The table of lines: the word that begins each, where it may stand, and how many words it has.
use Rattle.std.specs.Prelude.{ℕ, Bool, true, false, Option, List, [], ◌∷◌, codes, bytes_eq}
use Rattle.std.specs.List.{find}
use Rattle.flstore_service.specs.declared.keyword.Keyword.{Keyword}
use Rattle.flstore_service.specs.declared.keyword.Keyword.TheVariants.{FlStore, Round, Maintainers, Put, After, Gossip, Head, Read, AddMaintainer, End}
use Rattle.flstore_service.specs.declared.keyword.Section.{Section}
use Rattle.flstore_service.specs.declared.keyword.Section.TheVariants as section

-- the first word of a line
unfoldable pub text_of : Keyword → List ℕ
text_of FlStore = codes "flstore"
text_of Round = codes "round"
text_of Maintainers = codes "maintainers"
text_of Put = codes "put"
text_of After = codes "after"
text_of Gossip = codes "gossip"
text_of Head = codes "head"
text_of Read = codes "read"
text_of AddMaintainer = codes "addmaintainer"
text_of End = codes "end"

-- all keywords
abbrev pub keywords : List Keyword
keywords = FlStore ∷ Round ∷ Maintainers ∷ Put ∷ After ∷ Gossip ∷ Head ∷ Read ∷ AddMaintainer ∷ End ∷ []

-- the keyword that a word spells
unfoldable pub keyword_of : List ℕ → Option Keyword
keyword_of word = find (λ keyword. bytes_eq (text_of keyword) word) keywords

-- the sections
abbrev pub is_start : Section → Bool
is_start section.Start = true
is_start _ = false

abbrev pub is_round : Section → Bool
is_round section.Round = true
is_round _ = false

abbrev pub is_maintainers : Section → Bool
is_maintainers section.Maintainers = true
is_maintainers _ = false

abbrev pub is_steps : Section → Bool
is_steps section.Steps = true
is_steps _ = false

abbrev pub is_ended : Section → Bool
is_ended section.Ended = true
is_ended _ = false

-- where a line may stand
abbrev pub stands : Keyword → Section → Bool
stands FlStore here = is_start here
stands Round here = is_round here
stands Maintainers here = is_maintainers here
stands Put here = is_steps here
stands After here = is_steps here
stands Gossip here = is_steps here
stands Head here = is_steps here
stands Read here = is_steps here
stands AddMaintainer here = is_steps here
stands End here = is_steps here

-- how many words follow the first
abbrev pub words_after_first : Keyword → ℕ
words_after_first FlStore = 1
words_after_first Round = 1
words_after_first Maintainers = 1
words_after_first Put = 2
words_after_first After = 3
words_after_first Gossip = 2
words_after_first Head = 1
words_after_first Read = 2
words_after_first AddMaintainer = 1
words_after_first End = 0
