use Rattle.std.proofs.Common.{[]}
use Rattle.journal_lock.proofs.parts.split_bare.Given as goal

-- nothing
abbrev pub ghosts-split : goal.ghosts-split
ghosts-split a = record { duties = []; hand = []; placed = [] }
