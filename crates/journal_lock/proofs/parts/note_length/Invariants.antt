use Rattle.std.proofs.Common.{[], ◌∷◌}
use Rattle.journal_lock.proofs.parts.note_length.Given as goal

-- the length of one log
abbrev pub ghosts-note_one : goal.ghosts-note_one
ghosts-note_one a = record { placed = []; lengths = a.dc ∷ []; pairs = []; pins = [] }
