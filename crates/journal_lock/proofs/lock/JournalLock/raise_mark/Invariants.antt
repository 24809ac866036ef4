use Rattle.journal_lock.proofs.lock.JournalLock.raise_mark.Given as goal

-- what this lock is made for
abbrev pub ghosts-raise_by : goal.ghosts-raise_by
ghosts-raise_by a = record { load = a.self.now.workload; round = a.self.now.round }
