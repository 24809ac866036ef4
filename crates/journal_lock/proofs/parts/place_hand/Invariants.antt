use Rattle.std.proofs.Common.{[]}
use Rattle.journal_lock.proofs.parts.place_hand.Given as goal

-- all positions at hand
abbrev pub ghosts-place_all : goal.ghosts-place_all
ghosts-place_all a = record { placed = a.pass.now.hand; lengths = []; pairs = []; pins = [] }
