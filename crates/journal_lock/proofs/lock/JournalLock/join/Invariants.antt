use Rattle.journal_lock.proofs.lock.JournalLock.join.Given as goal

-- what this lock is made for
abbrev pub ghosts-join_both : goal.ghosts-join_both
ghosts-join_both a = record { load = a.self.now.workload; round = a.self.now.round }
