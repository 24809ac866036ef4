use Rattle.std.proofs.Common.{[], ◌∷◌}
use Rattle.journal_lock.proofs.parts.split_duty.Given as goal

-- the duty alone
abbrev pub ghosts-split_one : goal.ghosts-split_one
ghosts-split_one a = record { duties = a.duty ∷ []; hand = []; placed = [] }
