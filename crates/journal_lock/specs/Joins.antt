-- Pairs of epochs and marks that a pass was told, and what two of them say together.
use Rattle.std.specs.Prelude.{ℕ, List, map, Contains}
use Rattle.std.specs.List.{All}
use Rattle.flstore_rounds.specs.Heads.{Pair, joined}
use Rattle.journal_lock.specs.declared.law.Note.{Note}
use Rattle.journal_lock.specs.declared.law.Note.TheVariants.{Told}

-- two pairs of a datacentre
abbrev pub TwoPairs : Type 0
TwoPairs = ℕ × Pair × Pair

-- the note that tells a pair
abbrev pub told_as : ℕ → Pair → Note
told_as d v = Told d v.epochs v.marks

-- notes tell both pairs of each
abbrev pub AreTold : List TwoPairs → List Note → Type 0
AreTold twos notes = All (λ (t : TwoPairs). Contains notes (told_as t.0 t.1) × Contains notes (told_as t.0 t.2)) twos

-- each two pairs as one: the longer list with the greater marks
abbrev pub joins_of : List TwoPairs → List Note
joins_of twos = map (λ (t : TwoPairs). told_as t.0 (joined t.1 t.2)) twos
