use Rattle.journal_lock.proofs.parts.split_whole.Given as goal

-- all that the pass has
abbrev pub ghosts-split_all : goal.ghosts-split_all
ghosts-split_all a = record { duties = a.pass.now.duties; hand = a.pass.now.hand; placed = a.pass.now.placed }
