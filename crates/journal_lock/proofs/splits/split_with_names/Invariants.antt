use Rattle.journal_lock.proofs.splits.split_with_names.Given as goal

-- the duties of the slice, and all names
abbrev pub ghosts-split_named : goal.ghosts-split_named
ghosts-split_named a = record { duties = a.duties.now; hand = a.pass.now.hand; placed = a.pass.now.placed }
