-- What holds in the loop of `load_row`, and what this lock is made for.
use Rattle.journal_lock.proofs.Rows.{IsRow}
use Rattle.journal_lock.proofs.lock.JournalLock.load_row.Given as goal

abbrev pub ghosts-tell_epoch : goal.ghosts-tell_epoch
ghosts-tell_epoch a = record { load = a.self.now.workload; round = a.self.now.round }

abbrev pub invariant-loop-at : goal.invariant-loop-at
invariant-loop-at l = IsRow l.fn.self.round l.fn.self.workload.dcs l.fn.dc l.fn.pass l.pass l.row l.at
