use Rattle.std.proofs.Common.{[], ◌∷◌}
use Rattle.journal_lock.proofs.parts.set_pin.Given as goal

-- the pin of one session
abbrev pub ghosts-pin_one : goal.ghosts-pin_one
ghosts-pin_one a = record { placed = []; lengths = []; pairs = []; pins = record { session = a.session; at = a.at } ∷ [] }
