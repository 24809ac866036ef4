use Rattle.journal_lock.proofs.lock.JournalLock.try_take.Given as goal

-- what this lock is made for
abbrev pub ghosts-take_once : goal.ghosts-take_once
ghosts-take_once a = record { load = a.self.now.workload; round = a.self.now.round }
