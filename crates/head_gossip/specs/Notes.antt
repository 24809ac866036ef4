-- What a note tells.
use Rattle.flstore_rounds.specs.Heads.{Pair}
use Rattle.head_gossip.specs.declared.vector.Note.{Note}

-- its list and marks as a pair
abbrev pub pair_of : Note → Pair
pair_of note = record { epochs = note.epochs; marks = note.marks }
