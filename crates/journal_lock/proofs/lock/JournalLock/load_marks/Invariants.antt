-- What holds in the loop of `load_marks`.
use Rattle.journal_lock.proofs.Rows.{IsMarked}
use Rattle.journal_lock.proofs.lock.JournalLock.load_marks.Given as goal

abbrev pub invariant-loop-member : goal.invariant-loop-member
invariant-loop-member l = IsMarked l.fn.dc l.fn.pass l.pass l.marks l.member
